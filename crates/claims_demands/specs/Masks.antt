-- When a position is on.
use Rattle.std.specs.Prelude.{ℕ, ◌/◌, ◌%◌, ◌^◌, ◌<◌, ◌≡◌, Bool, true, false, not, eqb}
use Rattle.walk_operands.specs.Mask.{on_bits, is_on}

abbrev pub differ : Bool → Bool → Bool
differ true b = not b
differ false b = b

-- A position is on when that bit of the mask register differs from the invert bit.
abbrev pub OnWhereTheyDiffer : Type 0
OnWhereTheyDiffer =
    (value i : ℕ) (invert zeroing : Bool) → value < 2 ^ 64 → i < 64 →
    is_on (record { on = on_bits invert value; zeroing = zeroing }) i ≡ differ invert (eqb (value / 2 ^ i % 2) 1)
