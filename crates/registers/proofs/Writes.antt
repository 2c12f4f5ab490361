-- Laws of a write to a register.
use Prim.Native.Nat.{ℕ, ◌<◌, ◌≤◌}
use mathlib.Core.Path.{◌≡◌, refl}
use mathlib.Core.Bool.{Bool, true, false, cond, ◌&&◌}
use mathlib.Core.List.{List}
use lib.Dec.{leb, ltb}
use lib.ListN.{length, get_or, set, length-set}
use lib.Seq.{get_or-set_other}
use native.Mathlib.Omega.{arith}
use borrow.Author.Tests.{le-leb, lt-ltb, leb-true}
use Rattle.registers.specs.Written.{written}

module _ (registers : List ℕ) (i value : ℕ) where
  -- register 0 stays 0
  pub zero_kept : get_or registers 0 0 ≡ 0 → get_or (written registers i value) 0 0 ≡ 0
  unfolding written
  zero_kept z = by (leb 1 i) refl (ltb i 128)
    where
      by :
          (low : Bool) → leb 1 i ≡ low → (high : Bool) →
          get_or (cond (low && high) (set registers i value) registers) 0 0 ≡ 0
      by true e true = rw (get_or-set_other registers i 0 value 0 (λ q. omega (arith, leb-true 1 i e))) z
      by true e false = z
      by false e high = z

  -- any other register stays
  pub other_kept : (r : ℕ) → (r ≡ i → ⊥) → get_or (written registers i value) r 0 ≡ get_or registers r 0
  unfolding written
  other_kept r other = by (leb 1 i && ltb i 128)
    where
      by : (t : Bool) → get_or (cond t (set registers i value) registers) r 0 ≡ get_or registers r 0
      by true = get_or-set_other registers i r value 0 other
      by false = refl

  pub length_kept : length (written registers i value) ≡ length registers
  unfolding written
  length_kept = by (leb 1 i && ltb i 128)
    where
      by : (t : Bool) → length (cond t (set registers i value) registers) ≡ length registers
      by true = length-set registers i value
      by false = refl

  pub written_above : 1 ≤ i → i < 128 → written registers i value ≡ set registers i value
  unfolding written
  written_above low high = rw (le-leb 1 i low, lt-ltb i 128 high)

pub written_zero : (registers : List ℕ) (value : ℕ) → written registers 0 value ≡ registers
unfolding written
written_zero registers value = refl
