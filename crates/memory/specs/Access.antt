-- Whether an access lies wholly in memory.
use Rattle.std.specs.Prelude.{Bool, cond, ℕ, ◌+◌, leb, Result, Ok, Err}
use Rattle.memory.specs.declared.access.Outside.{Outside}

-- n bytes from an address lie wholly in a memory of a size; the sum is of unbounded numbers
unfoldable pub inside : ℕ → ℕ → ℕ → Bool
inside size address n = leb (address + n) size

-- the place of such an access, or the refusal of any other
unfoldable pub located : ℕ → ℕ → ℕ → Result ℕ Outside
located size address n = cond (inside size address n) (Ok address) (Err record {})
