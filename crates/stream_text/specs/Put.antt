-- Text written into bytes.
use Rattle.std.specs.Prelude.{ℕ, ◌+◌, ◌≡◌, List, length}
use Rattle.std.proofs.lemmas.List.Edits.{sets}

-- The bytes `new` are `old` with a text stored from a place on, and `next` is the place after it.
pub record Put (old : List ℕ) (at : ℕ) (text new : List ℕ) (next : ℕ) : Type 0 where
  pub end : next ≡ at + length text
  pub bytes : new ≡ sets old at text
