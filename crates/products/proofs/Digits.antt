-- The halves of a product of natural numbers, by the halves and digits of its factors.
use Rattle.std.proofs.Common.{◌≡◌, ℕ, ◌+◌, ◌*◌, ◌/◌, ◌%◌, ◌^◌, sym, ap, ◌∙◌, lt_of_le_of_lt, mul-le-mul_right, arith, w64, Fits}
use native.Mathlib.Nat.{add-mul-div_left, div-div-eq-div-mul, div-le_of_le-mul, mod-add-div}

pub high_fits : {a b : ℕ} → Fits w64 a → Fits w64 b → Fits w64 (a * b / 2 ^ 64)
high_fits {b = b} h k =
    record { fits = lt_of_le_of_lt (div-le_of_le-mul (2 ^ 64) (mul-le-mul_right b (omega arith))) k.fits }

-- a number from its halves
abbrev of_halves : ℕ → ℕ → ℕ
of_halves low high = low + 2 ^ 32 * high

halves_back : (n : ℕ) → of_halves (n % 2 ^ 32) (n / 2 ^ 32) ≡ n
halves_back n = omega arith

-- the product of two upper halves is a multiple of 2 ^ 64
low_of_halves : (la ha lb hb : ℕ) →
    (la * lb + (ha * lb + la * hb) % 2 ^ 64 * 2 ^ 32 % 2 ^ 64) % 2 ^ 64 ≡ of_halves la ha * of_halves lb hb % 2 ^ 64
low_of_halves la ha lb hb = omega arith

-- the high word of a product, by the digits of a factor
of_digits : (m r q : ℕ) → m * r + 2 ^ 16 * (m * q) ≡ (r + 2 ^ 16 * q) * m
of_digits m r q = omega arith

by_digits : (m n : ℕ) → (m * (n % 2 ^ 16) / 2 ^ 16 + m * (n / 2 ^ 16)) / 2 ^ 16 ≡ n * m / 2 ^ 32
by_digits m n =
    ap (λ (q : ℕ). q / 2 ^ 16)
    (sym (add-mul-div_left (m * (n % 2 ^ 16)) (m * (n / 2 ^ 16)) (omega arith))
    ∙ ap (λ (q : ℕ). q / 2 ^ 16) (of_digits m (n % 2 ^ 16) (n / 2 ^ 16))
    ∙ ap (λ (q : ℕ). q * m / 2 ^ 16) (mod-add-div n (2 ^ 16)))
    ∙ div-div-eq-div-mul (n * m) (2 ^ 16) (2 ^ 16)

-- the high half of a sum of products, a word at a time
by_words : (x y z v : ℕ) →
    v + (y + x / 2 ^ 32) / 2 ^ 32 + (z + (y + x / 2 ^ 32) % 2 ^ 32) / 2 ^ 32
    ≡ (x + 2 ^ 32 * (y + z) + 2 ^ 64 * v) / 2 ^ 64
by_words x y z v = omega arith

high_of_halves : (la ha lb hb : ℕ) →
    la * lb + 2 ^ 32 * (ha * lb + la * hb) + 2 ^ 64 * (ha * hb) ≡ of_halves la ha * of_halves lb hb
high_of_halves la ha lb hb = omega arith

module _ (a b : ℕ) where
  abbrev la : ℕ
  la = a % 2 ^ 32

  abbrev ha : ℕ
  ha = a / 2 ^ 32

  abbrev lb : ℕ
  lb = b % 2 ^ 32

  abbrev hb : ℕ
  hb = b / 2 ^ 32

  pub low_by_halves :
      (la * lb + (ha * lb + la * hb) % 2 ^ 64 * 2 ^ 32 % 2 ^ 64) % 2 ^ 64 ≡ a * b % 2 ^ 64
  low_by_halves =
      low_of_halves la ha lb hb
      ∙ ap (λ (n : ℕ). n * of_halves lb hb % 2 ^ 64) (halves_back a)
      ∙ ap (λ (n : ℕ). a * n % 2 ^ 64) (halves_back b)

  abbrev first : ℕ
  first = ha * lb + (lb * (la % 2 ^ 16) / 2 ^ 16 + lb * (la / 2 ^ 16)) / 2 ^ 16

  pub high_by_halves : ha * hb + first / 2 ^ 32 + (la * hb + first % 2 ^ 32) / 2 ^ 32 ≡ a * b / 2 ^ 64
  high_by_halves =
      ap (λ (n : ℕ). ha * hb + (ha * lb + n) / 2 ^ 32 + (la * hb + (ha * lb + n) % 2 ^ 32) / 2 ^ 32) (by_digits lb la)
      ∙ by_words (la * lb) (ha * lb) (la * hb) (ha * hb)
      ∙ ap (λ (n : ℕ). n / 2 ^ 64)
      (high_of_halves la ha lb hb
      ∙ ap (λ (n : ℕ). n * of_halves lb hb) (halves_back a)
      ∙ ap (λ (n : ℕ). a * n) (halves_back b))
