-- The high half is the unsigned product's with its corrections taken away, and both halves are the product.
use Rattle.std.proofs.Common.{◌≡◌, ℕ, suc, ◌+◌, ◌-◌, ◌*◌, ◌/◌, ◌%◌, ◌^◌, ◌<◌, Bool, true, false, ltb, ℤ, pos, negsuc, ◌+ℤ◌, ◌*ℤ◌, refl, ap, ◌∙◌, arith, w64, of_z, ltb-false, ltb-true}
use lib.Signed.{mag}
use mir.Val.{sel}
use Rattle.scalar.specs.Signed.{interpreted}
use Rattle.scalar.specs.declared.signedness.Signedness.{Signedness}
use Rattle.scalar.specs.declared.signedness.Signedness.TheVariants.{Signed, Unsigned}
use Rattle.products.specs.Product.{low_half, high_half, BothHalves}
use Rattle.products.specs.Sign.{sign_bit}
use Rattle.products.proofs.Integers.{Difference, product_over, quotient, quotient_and_rest}
use Rattle.products.proofs.Ranges.{whole, high, high_range, high_back}

-- a negative factor is 2 ^ 64 less than its bits
by_half : (n : ℕ) → n < 2 ^ 64 → (below : Bool) → ltb n (2 ^ 63) ≡ below →
    Difference (sel below (pos n) (negsuc (2 ^ 64 - suc n))) n (n / 2 ^ 63 * 2 ^ 64)
by_half n h true e = omega (arith, ltb-true n (2 ^ 63) e)
by_half n h false e = omega (arith, ltb-false n (2 ^ 63) e)

by_sign : (s : Signedness) (n : ℕ) → n < 2 ^ 64 → Difference (interpreted s w64 n) n (sign_bit s n * 2 ^ 64)
unfolding sign_bit
by_sign Signed n h = by_half n h (ltb n (2 ^ 63)) refl
by_sign Unsigned n h = omega arith

-- the bits of h - x - y, where x and y are taken away in turn
corrected : (z : ℤ) (h k x y less r : ℕ) → mag z < 2 ^ 64 → Difference z (h + k * 2 ^ 64) (x + y) →
    (less + x) % 2 ^ 64 ≡ h → (r + y) % 2 ^ 64 ≡ less → r < 2 ^ 64 → r ≡ of_z w64 z
corrected (pos n) h k x y less r i d e f j = omega arith
corrected (negsuc n) h k x y less r i d e f j = omega arith

module _ (s t : Signedness) (a b : ℕ) where
  abbrev both_negative : ℕ
  both_negative = sign_bit s a * sign_bit t b

  abbrev corrections : ℕ
  corrections = sign_bit s a * b + sign_bit t b * a

  module _ (ha : a < 2 ^ 64) (hb : b < 2 ^ 64) where
    by_signs : Difference (whole s t a b) (a * b + both_negative * 2 ^ 64 * 2 ^ 64) (corrections * 2 ^ 64)
    by_signs =
        product_over (2 ^ 64) (interpreted s w64 a) (interpreted t w64 b) a (sign_bit s a) b (sign_bit t b)
        (by_sign s a ha) (by_sign t b hb)

    pub high_half_corrected : (less r : ℕ) → (less + sign_bit s a * b) % 2 ^ 64 ≡ a * b / 2 ^ 64 →
        (r + sign_bit t b * a) % 2 ^ 64 ≡ less → r < 2 ^ 64 → r ≡ high_half s t a b
    unfolding high_half
    high_half_corrected less r =
        corrected (high s t a b) (a * b / 2 ^ 64) both_negative (sign_bit s a * b) (sign_bit t b * a) less r
        (high_range a b ha hb s t) (quotient (whole s t a b) (a * b) (both_negative * 2 ^ 64) corrections by_signs)

pub both_halves : BothHalves
unfolding high_half low_half
both_halves s t a b ha hb =
    ap (λ (z : ℤ). z *ℤ pos (2 ^ 64) +ℤ pos (low_half a b)) (high_back a b ha hb s t)
    ∙ quotient_and_rest (whole s t a b) (a * b) (both_negative s t a b * 2 ^ 64) (corrections s t a b)
    (by_signs s t a b ha hb)
