-- The high half of a product as an integer, and the ranges of it and of the factors.
use Rattle.std.proofs.Common.{◌≡◌, ℕ, zero, suc, ◌*◌, ◌/◌, ◌^◌, ◌<◌, ◌≤◌, ℤ, pos, negsuc, ◌*ℤ◌, neg_ℤ, nat_abs, refl, le_refl, lt_of_le_of_lt, le_of_lt, mul-le-mul_right, mul_comm, div-lt_iff_lt-mul, arith, to_z-of_z, w64, to_z, of_z}
use native.Mathlib.Nat.{mul-lt-mul_of_pos_left}
use lib.Signed.{mag, shr_z, nat_abs-le}
use mir.Facts.{sfits_to_z}
use Rattle.scalar.specs.Signed.{interpreted}
use Rattle.scalar.specs.declared.signedness.Signedness.{Signedness}
use Rattle.scalar.specs.declared.signedness.Signedness.TheVariants.{Signed, Unsigned}
use Rattle.products.specs.Product.{of_product}

-- the product of what the factors stand for, and its high half
abbrev pub whole : Signedness → Signedness → ℕ → ℕ → ℤ
whole s t a b = interpreted s w64 a *ℤ interpreted t w64 b

abbrev pub high : Signedness → Signedness → ℕ → ℕ → ℤ
high s t a b = shr_z (whole s t a b) (2 ^ 64)

mag_negated : (n : ℕ) → mag (neg_ℤ (pos n)) ≤ n
mag_negated zero = le_refl zero
mag_negated (suc n) = omega arith

mag_product : (z w : ℤ) → mag (z *ℤ w) ≤ nat_abs z * nat_abs w
mag_product (pos m) (pos n) = le_refl (m * n)
mag_product (pos m) (negsuc n) = mag_negated (m * suc n)
mag_product (negsuc m) (pos n) = mag_negated (suc m * n)
mag_product (negsuc m) (negsuc n) = omega arith

mag_shifted : (z : ℤ) (m : ℕ) → mag (shr_z z m) ≡ mag z / m
mag_shifted (pos n) m = refl
mag_shifted (negsuc n) m = refl

quotient_below : (z w : ℤ) (k : ℕ) → nat_abs z * nat_abs w < k * 2 ^ 64 → mag (shr_z (z *ℤ w) (2 ^ 64)) < k
quotient_below z w k h =
    rw (mag_shifted (z *ℤ w) (2 ^ 64))
    ((div-lt_iff_lt-mul {k = 2 ^ 64} {x = mag (z *ℤ w)} {y = k} (omega arith)).1 (lt_of_le_of_lt (mag_product z w) h))

product_below : (k x y : ℕ) → 0 < k → x ≤ k → y < 2 ^ 64 → x * y < k * 2 ^ 64
product_below k x y h i j = lt_of_le_of_lt (mul-le-mul_right y i) (mul-lt-mul_of_pos_left j h)

signed_range : (n : ℕ) → n < 2 ^ 64 → nat_abs (to_z w64 n) ≤ 2 ^ 63
signed_range n h = nat_abs-le (to_z w64 n) (sfits_to_z {w = w64} {n = n} (record { fits = h })).sfits

range : (s : Signedness) (n : ℕ) → n < 2 ^ 64 → nat_abs (interpreted s w64 n) < 2 ^ 64
range Signed n h = lt_of_le_of_lt (signed_range n h) (omega arith)
range Unsigned n h = h

module _ (a b : ℕ) (ha : a < 2 ^ 64) (hb : b < 2 ^ 64) where
  pub high_range : (s t : Signedness) → mag (high s t a b) < 2 ^ 64
  high_range s t =
      quotient_below (interpreted s w64 a) (interpreted t w64 b) (2 ^ 64)
      (product_below (2 ^ 64) (nat_abs (interpreted s w64 a)) (nat_abs (interpreted t w64 b)) (omega arith)
      (le_of_lt (range s a ha)) (range t b hb))

  -- 64 bits hold it, as a signed number if a factor is signed
  pub high_back : (s t : Signedness) → interpreted (of_product s t) w64 (of_z w64 (high s t a b)) ≡ high s t a b
  high_back Signed t =
      let w = interpreted t w64 b in
      let h = product_below (2 ^ 63) (nat_abs (to_z w64 a)) (nat_abs w) (omega arith) (signed_range a ha) (range t b hb) in
      to_z-of_z {w = w64} (record { sfits = quotient_below (to_z w64 a) w (2 ^ 63) h })
  high_back Unsigned Signed =
      let h = product_below (2 ^ 63) (nat_abs (to_z w64 b)) a (omega arith) (signed_range b hb) ha in
      to_z-of_z {w = w64} (record { sfits = quotient_below (pos a) (to_z w64 b) (2 ^ 63) (rw (mul_comm a (nat_abs (to_z w64 b))) h) })
  high_back Unsigned Unsigned = refl
