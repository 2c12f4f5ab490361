-- The integer bit and the key of an entry, compared at once without the two bits between them.
use Prim.Native.Nat.{ℕ, ◌+◌, ◌-◌, ◌*◌, ◌/◌, ◌%◌, ◌<◌}
use mathlib.Core.Path.{◌≡◌, refl}
use mathlib.Core.Bool.{Bool, true, false, ◌&&◌}
use lib.Dec.{eqb}
use native.Mathlib.Omega.{arith}
use borrow.Author.Tests.{eqb-true, eqb-false, eq-eqb, ne_eqb}

-- two tests by one
module _ (left right bit key wanted : ℕ)
    (together : bit ≡ 1 → key ≡ wanted → left ≡ right)
    (apart : left ≡ right → (bit ≡ 1) × (key ≡ wanted))
  where
    one_test : eqb left right ≡ (eqb bit 1 && eqb key wanted)
    one_test = by (eqb bit 1) (eqb key wanted) refl refl
      where
        by : (b k : Bool) → eqb bit 1 ≡ b → eqb key wanted ≡ k → eqb left right ≡ (b && k)
        by true true e f = eq-eqb left right (together (eqb-true bit 1 e) (eqb-true key wanted f))
        by true false e f = ne_eqb left right (λ h. eqb-false key wanted f (apart h).1)
        by false k e f = ne_eqb left right (λ h. eqb-false bit 1 e (apart h).0)

module _ (word key : ℕ) where
  without_width : word % 256 - word % 256 / 32 % 4 * 32 ≡ 128 * (word / 128 % 2) + word % 32
  without_width =
      let high : word % 256 / 32 / 4 ≡ word / 128 % 2 = omega arith in
      let low : word % 256 % 32 ≡ word % 32 = omega arith in
      omega arith

  pub register_fields :
      eqb (word % 256 - word % 256 / 32 % 4 * 32) (128 + key) ≡ (eqb (word / 128 % 2) 1 && eqb (word % 32) key)
  register_fields =
      let both = without_width in
      one_test (word % 256 - word % 256 / 32 % 4 * 32) (128 + key) (word / 128 % 2) (word % 32) key
      (λ b k. omega arith) (λ h. (omega arith, omega arith))

  pub predicate_fields :
      word < 65536 →
      eqb (word / 256 - word / 256 / 2 % 4 * 2) (1 + key * 8)
      ≡ (eqb (word / 256 % 2) 1 && eqb (word / 2048 % 32) key)
  predicate_fields fits =
      one_test (word / 256 - word / 256 / 2 % 4 * 2) (1 + key * 8) (word / 256 % 2) (word / 2048 % 32) key
      (λ b k. omega arith) (λ h. (omega arith, omega arith))
