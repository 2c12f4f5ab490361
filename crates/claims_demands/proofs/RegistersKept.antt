-- What a write keeps of the registers.
use Prim.Native.Nat.{ℕ}
use mathlib.Core.Path.{◌≡◌, refl}
use mathlib.Core.List.{List}
use lib.ListN.{length, get_or}
use Rattle.registers.specs.Written.{written}
use Rattle.registers.proofs.Writes.{zero_kept, other_kept, length_kept}

-- `Writes` says which registers may have been written
pub record RegistersKept (Writes : ℕ → Type 0) (before after : List ℕ) : Type 0 where
  pub others : (r : ℕ) → (Writes r → ⊥) → get_or after r 0 ≡ get_or before r 0
  pub zero_register : get_or before 0 0 ≡ 0 → get_or after 0 0 ≡ 0
  pub size : length after ≡ length before

module _ {Writes : ℕ → Type 0} (registers : List ℕ) where
  pub unwritten : RegistersKept Writes registers registers
  unwritten = record { others = λ r n. refl; zero_register = λ z. z; size = refl }

  pub one_written : (i value : ℕ) → Writes i → RegistersKept Writes registers (written registers i value)
  one_written i value w = record {
    others = λ r n. other_kept registers i value r (λ e. n (rw e w));
    zero_register = zero_kept registers i value;
    size = length_kept registers i value;
  }
