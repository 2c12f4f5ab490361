-- Words divided as numbers of 64 bits.
use Rattle.std.proofs.Common.{◌≡◌, ℕ, zero, suc, ◌-◌, ◌/◌, ◌%◌, ◌^◌, ◌<◌, ◌≤◌, Bool, true, false, cond, eqb, ltb, ℤ, pos, negsuc, neg_ℤ, nat_abs, sym, refl, ap, ◌∙◌, div-le_self, arith, to_z-of_z, w32, w64, Fits, to_z, of_z, ltb-false, ne_eqb}
use native.Mathlib.Nat.{mod-le}
use lib.Signed.{quot_z, rem_z}
use mir.Syntax.{Width}
use mir.Val.{sel}
use mir.ValLaws.{Fits-wrap}
use mir.Facts.{of_z-to_z, sfits_to_z, sfits_widen}
use Rattle.scalar.specs.Signed.{interpreted, low_word, sign_extended}
use Rattle.scalar.specs.declared.signedness.Signedness.{Signedness}
use Rattle.scalar.specs.declared.signedness.Signedness.TheVariants.{Signed, Unsigned}
use Rattle.scalar.specs.declared.width.Width.TheVariants.{Word}
use Rattle.division.specs.Division.{quotient, remainder}

-- a word that is sign-extended stands for the same number
pub extended_number : (a : ℕ) → to_z w64 (sign_extended Word a) ≡ to_z w32 (low_word a)
unfolding sign_extended
extended_number a = to_z-of_z {w = w64} (sfits_widen tt (sfits_to_z (Fits-wrap w32 a)))

-- a number that a word can stand for
abbrev IsWord : ℤ → Type 0
IsWord (pos n) = n < 2 ^ 32
IsWord (negsuc n) = n < 2 ^ 31

word_number : (s : Signedness) (x : ℕ) → x < 2 ^ 32 → IsWord (interpreted s w32 x)
word_number Unsigned x h = h
word_number Signed x h = by (ltb x (2 ^ 31)) refl
  where
    by : (t : Bool) → ltb x (2 ^ 31) ≡ t → IsWord (sel t (pos x) (negsuc (2 ^ 32 - suc x)))
    by true e = h
    by false e = let k = ltb-false x (2 ^ 31) e in omega arith

-- the bits of the number that bits stand for
bits_back : (s : Signedness) (w : Width) (a : ℕ) → Fits w a → of_z w (interpreted s w a) ≡ a
bits_back Signed w a f = of_z-to_z f
bits_back Unsigned w a f = refl

-- a number whose low word is the same in 32 and in 64 bits
abbrev Bounded : ℤ → Type 0
Bounded (pos n) = Unit {0}
Bounded (negsuc n) = n < 2 ^ 32

low_word-of_z : (z : ℤ) → Bounded z → of_z w64 z % 2 ^ 32 ≡ of_z w32 z % 2 ^ 32
low_word-of_z (pos n) h = refl
low_word-of_z (negsuc n) h = omega arith

word_bounded : (z : ℤ) → IsWord z → Bounded z
word_bounded (pos n) h = tt
word_bounded (negsuc n) h = omega arith

same_zero : (z : ℤ) → IsWord z → eqb (of_z w64 z) 0 ≡ eqb (of_z w32 z) 0
same_zero (pos n) h = refl
same_zero (negsuc n) h =
    rw (ne_eqb (2 ^ 64 - suc n) 0 (λ e. omega (arith, e)), ne_eqb (2 ^ 32 - suc n) 0 (λ e. omega (arith, e)))

negated_bounded : (n : ℕ) → n ≤ 2 ^ 32 → Bounded (neg_ℤ (pos n))
negated_bounded zero h = tt
negated_bounded (suc n) h = h

quotient_bounded : (x y : ℤ) → IsWord x → Bounded (quot_z x y)
quotient_bounded (pos a) (pos b) h = tt
quotient_bounded (pos a) (negsuc b) h = let k = div-le_self a (suc b) in negated_bounded (a / suc b) (omega (arith, k))
quotient_bounded (negsuc a) (pos b) h = let k = div-le_self (suc a) b in negated_bounded (suc a / b) (omega (arith, k))
quotient_bounded (negsuc a) (negsuc b) h = tt

remainder_bounded : (x y : ℤ) → IsWord x → Bounded (rem_z x y)
remainder_bounded (pos a) y h = tt
remainder_bounded (negsuc a) y h =
    let k = mod-le (suc a) (nat_abs y) in negated_bounded (suc a % nat_abs y) (omega (arith, k))

-- what is sign-extended is the low word
either_extended :
    (t : Bool) (k l m n : ℕ) → k % 2 ^ 32 ≡ l % 2 ^ 32 → m % 2 ^ 32 ≡ n % 2 ^ 32 →
    sign_extended Word (cond t k m) ≡ sign_extended Word (cond t l n)
unfolding sign_extended
either_extended true k l m n d e = ap (λ (i : ℕ). of_z w64 (to_z w32 i)) d
either_extended false k l m n d e = ap (λ (i : ℕ). of_z w64 (to_z w32 i)) e

-- Two words, and numbers of 64 bits that stand for the same.
module _
    (s : Signedness) (a b a' b' : ℕ) (fa : Fits w64 a') (fb : Fits w64 b')
    (ea : interpreted s w64 a' ≡ interpreted s w32 (low_word a))
    (eb : interpreted s w64 b' ≡ interpreted s w32 (low_word b)) where
  abbrev x : ℤ
  x = interpreted s w32 (low_word a)

  abbrev y : ℤ
  y = interpreted s w32 (low_word b)

  dividend_word : IsWord x
  dividend_word = word_number s (low_word a) (Fits-wrap w32 a).fits

  same_dividend : a' % 2 ^ 32 ≡ low_word a % 2 ^ 32
  same_dividend =
      ap (λ (n : ℕ). n % 2 ^ 32) (sym (bits_back s w64 a' fa) ∙ ap (of_z w64) ea)
      ∙ low_word-of_z x (word_bounded x dividend_word)
      ∙ ap (λ (n : ℕ). n % 2 ^ 32) (bits_back s w32 (low_word a) (Fits-wrap w32 a))

  same_divisor : eqb b' 0 ≡ eqb (low_word b) 0
  same_divisor =
      ap (λ (n : ℕ). eqb n 0) (sym (bits_back s w64 b' fb) ∙ ap (of_z w64) eb)
      ∙ same_zero y (word_number s (low_word b) (Fits-wrap w32 b).fits)
      ∙ ap (λ (n : ℕ). eqb n 0) (bits_back s w32 (low_word b) (Fits-wrap w32 b))

  -- a result by integers, and by zero
  same_result :
      (result : ℤ → ℤ → ℤ) → Bounded (result x y) → (long short : ℕ) → long % 2 ^ 32 ≡ short % 2 ^ 32 →
      sign_extended Word (cond (eqb b' 0) long (of_z w64 (result (interpreted s w64 a') (interpreted s w64 b'))))
      ≡ sign_extended Word (cond (eqb (low_word b) 0) short (of_z w32 (result x y)))
  same_result result h long short e =
      rw (ea, eb, same_divisor)
      (either_extended (eqb (low_word b) 0) long short (of_z w64 (result x y)) (of_z w32 (result x y)) e
      (low_word-of_z (result x y) h))

  pub same_quotient : sign_extended Word (quotient s w64 a' b') ≡ sign_extended Word (quotient s w32 (low_word a) (low_word b))
  unfolding quotient
  same_quotient = same_result quot_z (quotient_bounded x y dividend_word) (2 ^ 64 - 1) (2 ^ 32 - 1) refl

  pub same_remainder :
      sign_extended Word (remainder s w64 a' b') ≡ sign_extended Word (remainder s w32 (low_word a) (low_word b))
  unfolding remainder
  same_remainder = same_result rem_z (remainder_bounded x y dividend_word) a' (low_word a) same_dividend
