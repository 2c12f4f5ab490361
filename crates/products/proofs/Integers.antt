-- Integers as differences of natural numbers, with their products and their quotients by 2 ^ 64.
use Rattle.std.proofs.Common.{◌≡◌, ℕ, zero, suc, ◌+◌, ◌*◌, ◌/◌, ◌%◌, ◌^◌, ℤ, pos, negsuc, ◌+ℤ◌, ◌*ℤ◌, neg_ℤ, ap, arith, lt-ltb}
use lib.Signed.{shr_z}

-- z is x - y
abbrev pub Difference : ℤ → ℕ → ℕ → Type 0
Difference (pos n) x y = x ≡ n + y
Difference (negsuc n) x y = x + suc n ≡ y

negated : (z : ℤ) (x y : ℕ) → Difference z x y → Difference (neg_ℤ z) y x
negated (pos zero) x y d = omega arith
negated (pos (suc n)) x y d = omega arith
negated (negsuc n) x y d = omega arith

product : (z w : ℤ) (x y u v : ℕ) → Difference z x y → Difference w u v →
    Difference (z *ℤ w) (x * u + y * v) (y * u + v * x)
product (pos m) (pos n) x y u v d e = rw (d, e) (omega arith)
product (pos m) (negsuc n) x y u v d e =
    negated (pos (m * suc n)) (y * u + v * x) (x * u + y * v) (rw (d, ← e) (omega arith))
product (negsuc m) (pos n) x y u v d e =
    negated (pos (suc m * n)) (y * u + v * x) (x * u + y * v) (rw (← d, e) (omega arith))
product (negsuc m) (negsuc n) x y u v d e = rw (← d, ← e) (omega arith)

-- for any p, since omega reads no number as large as 2 ^ 128
pub product_over : (p : ℕ) (z w : ℤ) (a m b n : ℕ) → Difference z a (m * p) → Difference w b (n * p) →
    Difference (z *ℤ w) (a * b + m * n * p * p) ((m * b + n * a) * p)
product_over p z w a m b n d e =
    let f : m * p * (n * p) ≡ m * n * p * p = omega arith in
    let g : m * p * b + n * p * a ≡ (m * b + n * a) * p = omega arith in
    rw (f, g) at (product z w a (m * p) b (n * p) d e)

negative_sum : (m r n : ℕ) → m ≡ suc n + r → neg_ℤ (pos m) +ℤ pos r ≡ negsuc n
negative_sum zero r n e = absurd (omega arith)
negative_sum (suc m) r n e = rw (lt-ltb r (suc m) (omega arith)) (ap negsuc (omega arith))

-- of a number that differs from x by a multiple of 2 ^ 64
pub quotient : (z : ℤ) (x k y : ℕ) → Difference z (x + k * 2 ^ 64) (y * 2 ^ 64) →
    Difference (shr_z z (2 ^ 64)) (x / 2 ^ 64 + k) y
quotient (pos n) x k y d = omega arith
quotient (negsuc n) x k y d = omega arith

pub quotient_and_rest : (z : ℤ) (x k y : ℕ) → Difference z (x + k * 2 ^ 64) (y * 2 ^ 64) →
    shr_z z (2 ^ 64) *ℤ pos (2 ^ 64) +ℤ pos (x % 2 ^ 64) ≡ z
quotient_and_rest (pos n) x k y d = ap pos (omega arith)
quotient_and_rest (negsuc n) x k y d =
    negative_sum (suc (n / 2 ^ 64) * 2 ^ 64) (x % 2 ^ 64) n (omega arith)
