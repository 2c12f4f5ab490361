-- Misaligned accesses of a run are refused.
use Rattle.std.specs.Prelude.{ℕ, ◌%◌, Bool, cond, ◌==◌}
use Rattle.walk_operations.specs.declared.position.Fault.TheVariants.{Misaligned}
use Rattle.walk_transfers.specs.Transfer.{Transferred, refused}

-- an address that is divisible by the bytes of its access
unfoldable pub aligned : ℕ → ℕ → Bool
aligned address bytes = address % bytes == 0

-- An access of 2, 4 or 8 bytes at an address not divisible by that number is refused before memory is asked.
unfoldable pub where_aligned : ℕ → ℕ → Transferred → Transferred
where_aligned address bytes served = cond (aligned address bytes) served (refused Misaligned address)
