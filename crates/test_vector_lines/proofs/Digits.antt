-- The digits of a number, one by one.
use Prim.Native.Nat.{ℕ, ◌+◌, ◌*◌, ◌^◌, ◌≤◌, ◌<◌}
use mathlib.Core.Path.{◌≡◌, refl}
use mathlib.Core.Bool.{Bool, true, false, cond, ◌&&◌, and-eq-true_iff}
use mathlib.Core.List.{List, [], ◌∷◌}
use lib.Dec.{leb, ltb}
use lib.ListN.{length, get_or, drop, drop_of_length-le}
use lib.Seq.{drop-cons}
use native.Mathlib.Nat.{pow-suc, pow-le-pow_right, mul-le-mul_left}
use native.Mathlib.Numerals.{add-one}
use native.Mathlib.Omega.{arith}
use borrow.Author.Tests.{lt-ltb, leb-true}
use Rattle.std.specs.Prelude.{Option, None, Some, option_and_then}
use Rattle.test_vector_lines.specs.Hex.{digit_of, Below, digits_after as hex_after}
use Rattle.test_vector_lines.specs.Number.{digits_after}

-- one digit, or none, and then the others
pub one_digit :
    (base : ℕ) (digits : List ℕ) (n i : ℕ) (digit : Option ℕ) → i < length digits →
    digit ≡ digit_of (get_or digits i 0) →
    digits_after base n (drop i digits)
    ≡ option_and_then
    (λ d. cond (ltb d base && ltb n (2 ^ 60)) (digits_after base (n * base + d) (drop (i + 1) digits)) None)
    digit
unfolding digits_after
one_digit base digits n i digit h e = rw (drop-cons digits i 0 h, e, add-one)

pub no_more : (base : ℕ) (digits : List ℕ) (n i : ℕ) → length digits ≤ i → digits_after base n (drop i digits) ≡ Some n
unfolding digits_after
no_more base digits n i h = rw (drop_of_length-le digits h)

pub fits : (n base d : ℕ) → n < 2 ^ 60 → base ≤ 16 → d < base → n * base + d < 2 ^ 64
fits n base d h l m = omega (arith, mul-le-mul_left n l)

-- one digit more
longer : (n d k : ℕ) → n < 16 ^ k → d < 16 → n * 16 + d < 16 ^ (k + 1)
longer n d k h l = rw (add-one, pow-suc) (omega arith)

-- a digit follows at most fifteen
room : (n k : ℕ) → n < 16 ^ k → k < 16 → n < 2 ^ 60
room n k h l =
    let most : 16 ^ k ≤ 16 ^ 15 = pow-le-pow_right (omega arith) {i = k} {j = 15} (omega arith) in
    omega arith

digit_below : (b : ℕ) → Below 16 (digit_of b)
unfolding digit_of
digit_below b = by (leb 48 b && leb b 57) (leb 97 b && leb b 102) refl refl
  where
    by :
        (t u : Bool) → (leb 48 b && leb b 57) ≡ t → (leb 97 b && leb b 102) ≡ u → Below 16 (digit_of b)
    by true u e f =
        let h : b ≤ 57 = leb-true b 57 ((and-eq-true_iff (leb 48 b) (leb b 57)).0 e).1 in
        rw e (omega arith)
    by false true e f =
        let h : b ≤ 102 = leb-true b 102 ((and-eq-true_iff (leb 97 b) (leb b 102)).0 f).1 in
        rw (e, f) (omega arith)
    by false false e f = rw (e, f) tt

-- up to sixteen digits all follow
pub same_digits :
    (bs : List ℕ) (n k : ℕ) → n < 16 ^ k → k + length bs ≤ 16 → digits_after 16 n bs ≡ hex_after n bs
unfolding digits_after hex_after
same_digits [] n k l h = refl
same_digits (b ∷ bs) n k l h =
    by (digit_of b) (digit_below b)
    (λ d. λ m. same_digits bs (n * 16 + d) (k + 1) (longer n d k l m) (omega arith))
  where
    by :
        (digit : Option ℕ) → Below 16 digit →
        ((d : ℕ) → d < 16 → digits_after 16 (n * 16 + d) bs ≡ hex_after (n * 16 + d) bs) →
        option_and_then (λ d. cond (ltb d 16 && ltb n (2 ^ 60)) (digits_after 16 (n * 16 + d) bs) None) digit
        ≡ option_and_then (λ d. hex_after (n * 16 + d) bs) digit
    by None m rest = refl
    by (Some d) m rest = rw (lt-ltb d 16 m, lt-ltb n (2 ^ 60) (room n k l (omega arith))) (rest d m)

pub bounded : (bs : List ℕ) (n k all : ℕ) → n < 16 ^ k → k + length bs ≡ all → Below (16 ^ all) (hex_after n bs)
unfolding hex_after
bounded [] n k all l e = let same : k ≡ all = omega arith in rw same at l
bounded (b ∷ bs) n k all l e =
    by (digit_of b) (digit_below b) (λ d. λ m. bounded bs (n * 16 + d) (k + 1) all (longer n d k l m) (omega arith))
  where
    by :
        (digit : Option ℕ) → Below 16 digit →
        ((d : ℕ) → d < 16 → Below (16 ^ all) (hex_after (n * 16 + d) bs)) →
        Below (16 ^ all) (option_and_then (λ d. hex_after (n * 16 + d) bs) digit)
    by None m rest = tt
    by (Some d) m rest = rest d m
