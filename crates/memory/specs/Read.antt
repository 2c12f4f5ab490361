-- What is known of a number read from memory.
use Rattle.std.specs.Prelude.{◌≡◌, List, ℕ, ◌*◌, ◌^◌, ◌<◌}
use Rattle.memory.specs.LittleEndian.{number}

pub record Read (memory : List ℕ) (address n value : ℕ) : Type 0 where
  pub equal : value ≡ number memory address n
  pub below : value < 2 ^ (8 * n)
