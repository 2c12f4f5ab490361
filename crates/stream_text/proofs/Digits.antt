-- The digits of a number: the last, those before it, and how many.
use Prim.Native.Nat.{ℕ, zero, suc, ◌+◌, ◌/◌, ◌%◌, ◌^◌, ◌<◌, ◌≤◌}
use native.Mathlib.Nat.{pow-suc}
use native.Mathlib.Omega.{arith}
use mathlib.Core.Path.{◌≡◌, refl, sym, ap, ◌∙◌}
use mathlib.Core.Bool.{Bool, true, false, cond}
use mathlib.Core.List.{List, [], ◌∷◌, ◌++◌}
use borrow.Author.Tests.{lt-ltb, le-ltb, ltb-false}
use lib.Dec.{ltb}
use lib.ListN.{length, length-append}
use Rattle.stream_text.specs.Decimal.{digit, digits, decimal}

few : (most n : ℕ) → n < 10 → digits most n ≡ digit n ∷ []
unfolding digits
few zero n h = refl
few (suc most) n h = rw (lt-ltb n 10 h)

-- any bound that is not below the number gives the same digits
enough : (f g n : ℕ) → n ≤ f → n ≤ g → digits f n ≡ digits g n
unfolding digits
enough zero g n p q = sym (few g n (omega arith))
enough (suc f) zero n p q = few (suc f) n (omega arith)
enough (suc f) (suc g) n p q = by (ltb n 10) refl (enough f g (n / 10))
  where
    by :
        (t : Bool) → ltb n 10 ≡ t → (n / 10 ≤ f → n / 10 ≤ g → digits f (n / 10) ≡ digits g (n / 10)) →
        cond t (digit n ∷ []) (digits f (n / 10) ++ digit (n % 10) ∷ [])
        ≡ cond t (digit n ∷ []) (digits g (n / 10) ++ digit (n % 10) ∷ [])
    by true e above = refl
    by false e above =
        let h = ltb-false n 10 e in ap (λ (l : List ℕ). l ++ digit (n % 10) ∷ []) (above (omega arith) (omega arith))

module _ (n : ℕ) where
  pub one_digit : n < 10 → decimal n ≡ digit n ∷ []
  unfolding decimal
  one_digit h = few n n h

  pub last_digit : 10 ≤ n → decimal n ≡ decimal (n / 10) ++ digit (n % 10) ∷ []
  unfolding decimal digits
  last_digit h =
      enough n (suc n) n (omega arith) (omega arith)
      ∙ rw (le-ltb n 10 h, enough n (n / 10) (n / 10) (omega arith) (omega arith))

  pub more_digits : 10 ≤ n → length (decimal n) ≡ length (decimal (n / 10)) + 1
  more_digits h = ap length (last_digit h) ∙ length-append (decimal (n / 10)) (digit (n % 10) ∷ [])

at_most : (f k n : ℕ) → n < 10 ^ suc k → length (digits f n) ≤ suc k
unfolding digits
at_most zero k n h = omega arith
at_most (suc f) k n h = by (ltb n 10) refl k h (λ k. at_most f k (n / 10))
  where
    by :
        (t : Bool) → ltb n 10 ≡ t → (k : ℕ) → n < 10 ^ suc k →
        ((k : ℕ) → n / 10 < 10 ^ suc k → length (digits f (n / 10)) ≤ suc k) →
        length (cond t (digit n ∷ []) (digits f (n / 10) ++ digit (n % 10) ∷ [])) ≤ suc k
    by true e k h above = omega arith
    by false e zero h above = let l = ltb-false n 10 e in absurd (omega arith)
    by false e (suc k) h above =
        let below : n / 10 < 10 ^ suc k = omega (arith, pow-suc 10 (suc k)) in
        rw length-append (omega (arith, above k below))

-- a number below 10 ^ k has at most k digits
pub most_digits : (k n : ℕ) → n < 10 ^ suc k → length (decimal n) ≤ suc k
unfolding decimal
most_digits k n h = at_most n k n h

pub ruleset digit_laws = (one_digit, last_digit, more_digits)
