-- The words of a line, one after another.
use Prim.Native.Nat.{ℕ, suc, ◌≤◌}
use mathlib.Core.Path.{◌≡◌, refl, ap, subst, ◌∙◌, sym}
use mathlib.Core.Bool.{Bool, true, false, not}
use mathlib.Core.List.{List, [], ◌∷◌, ◌++◌}
use lib.Dec.{eqb, ltb}
use lib.ListN.{length, drop, take}
use Rattle.std.specs.Option.{unwrap_or}
use Rattle.std.specs.List.{position, position_or_len}
use Rattle.std.proofs.lemmas.List.{append-nil}
use Rattle.std.proofs.lemmas.List.Sums.{prefix_len-le-length}
use borrow.Author.Tests.{ltb-false}
use Rattle.std.proofs.Common.{append_assoc, arith}
use Rattle.test_reading_lines.specs.Words.{before, words_after, words_of, word_at}

abbrev first_letter : List ℕ → ℕ
first_letter line = position_or_len (λ b. not (eqb b 32)) line

abbrev first_space : List ℕ → ℕ
first_space line = position_or_len (λ b. eqb b 32) line

module _ (b : ℕ) (bs : List ℕ) where
  past_space : eqb b 32 ≡ true → first_letter (b ∷ bs) ≡ suc (first_letter bs)
  past_space e = rw e (omega arith)

  at_letter : eqb b 32 ≡ false → first_letter (b ∷ bs) ≡ 0
  at_letter e = rw e refl

  past_letter : eqb b 32 ≡ false → first_space (b ∷ bs) ≡ suc (first_space bs)
  past_letter e = rw e (omega arith)

  at_space : eqb b 32 ≡ true → first_space (b ∷ bs) ≡ 0
  at_space e = rw e refl

  -- the first byte moves into the word, or ends it
  begin : (begun : List ℕ) → eqb b 32 ≡ false → words_after begun (b ∷ bs) ≡ words_after (begun ++ b ∷ []) bs
  unfolding words_after
  begin begun e = rw e refl

  end : (begun : List ℕ) → eqb b 32 ≡ true → words_after begun (b ∷ bs) ≡ before begun (words_of bs)
  unfolding words_after
  end begun e = rw e refl

skipped : (line : List ℕ) → words_of (drop (first_letter line) line) ≡ words_of line
skipped [] = refl
skipped (b ∷ bs) = by (eqb b 32) refl (skipped bs)
  where
    by :
        (t : Bool) → eqb b 32 ≡ t → words_of (drop (first_letter bs) bs) ≡ words_of bs →
        words_of (drop (first_letter (b ∷ bs)) (b ∷ bs)) ≡ words_of (b ∷ bs)
    by true e rest = ap (λ n. words_of (drop n (b ∷ bs))) (past_space b bs e) ∙ rest ∙ sym (end b bs [] e)
    by false e rest = ap (λ n. words_of (drop n (b ∷ bs))) (at_letter b bs e)

-- a word that has begun, and the words after it, where n bytes more belong to it
abbrev split : List ℕ → List ℕ → ℕ → List (List ℕ)
split begun line n = before (begun ++ take n line) (words_of (drop n line))

at_end : (begun : List ℕ) → words_after begun [] ≡ split begun [] 0
unfolding words_after
at_end begun = rw append-nil refl

before_space : (begun line : List ℕ) → words_after begun line ≡ split begun line (first_space line)
before_space begun [] = at_end begun
before_space begun (b ∷ bs) = by (eqb b 32) refl (before_space (begun ++ b ∷ []) bs)
  where
    by :
        (t : Bool) → eqb b 32 ≡ t →
        words_after (begun ++ b ∷ []) bs ≡ split (begun ++ b ∷ []) bs (first_space bs) →
        words_after begun (b ∷ bs) ≡ split begun (b ∷ bs) (first_space (b ∷ bs))
    by true e rest =
        let here : before begun (words_of bs) ≡ split begun (b ∷ bs) 0 = rw (append-nil, end b bs [] e) refl in
        end b bs begun e ∙ here ∙ sym (ap (split begun (b ∷ bs)) (at_space b bs e))
    by false e rest =
        let on = rw (append_assoc begun (b ∷ []) (take (first_space bs) bs)) at rest in
        begin b bs begun e ∙ on ∙ sym (ap (split begun (b ∷ bs)) (past_letter b bs e))

-- after the spaces, nothing before a space is nothing at all
abbrev Nothing : List ℕ → Type 0
Nothing text = take (first_space text) text ≡ [] → text ≡ []

none_left : (line : List ℕ) → Nothing (drop (first_letter line) line)
none_left [] = λ e. refl
none_left (b ∷ bs) = by (eqb b 32) refl (none_left bs)
  where
    by :
        (t : Bool) → eqb b 32 ≡ t → Nothing (drop (first_letter bs) bs) →
        Nothing (drop (first_letter (b ∷ bs)) (b ∷ bs))
    by true e rest = subst (λ n. Nothing (drop n (b ∷ bs))) (sym (past_space b bs e)) rest
    by false e rest =
        subst (λ n. Nothing (drop n (b ∷ bs))) (sym (at_letter b bs e))
        (λ h. absurd (let g = subst (λ n. take n (b ∷ bs) ≡ []) (past_letter b bs e) h in omega (arith, ap length g)))

-- where a test first passes, or the length
pub place : (p : ℕ → Bool) (line : List ℕ) → unwrap_or (position p line) (length line) ≡ position_or_len p line
place p line = by (ltb (position_or_len p line) (length line)) refl
  where
    by :
        (t : Bool) → ltb (position_or_len p line) (length line) ≡ t →
        unwrap_or (position p line) (length line) ≡ position_or_len p line
    by true e = rw e
    by false e =
        let low : position_or_len p line ≤ length line = prefix_len-le-length (λ b. not (p b)) line in
        let high : length line ≤ position_or_len p line = ltb-false _ _ e in
        rw e (omega arith)

-- the first of some words, and the others
first_of :
    (word : List ℕ) (words rest : List (List ℕ)) → words ≡ before word rest → (word ≡ [] → rest ≡ []) →
    (word ≡ word_at 0 words) × (rest ≡ drop 1 words)
first_of [] words rest e none = let n = none refl in (rw (e, n), rw (e, n))
first_of (b ∷ bs) words rest e none = (rw e, rw e)

found :
    (line : List ℕ) →
    let text = drop (first_letter line) line in
    (take (first_space text) text ≡ word_at 0 (words_of line))
    × (words_of (drop (first_space text) text) ≡ drop 1 (words_of line))
unfolding words_after
found line =
    let nothing : words_of [] ≡ [] = refl in
    let text = drop (first_letter line) line in
    first_of (take (first_space text) text) (words_of line) (words_of (drop (first_space text) text))
    (sym (skipped line) ∙ before_space [] text)
    (λ h. ap (λ t. words_of (drop (first_space t) t)) (none_left line h) ∙ nothing)

pub next_word :
    (line text : List ℕ) (start end : ℕ) →
    start ≡ unwrap_or (position (λ b. not (eqb b 32)) line) (length line) → text ≡ drop start line →
    end ≡ unwrap_or (position (λ b. eqb b 32) text) (length text) →
    (take end text ≡ word_at 0 (words_of line)) × (words_of (drop end text) ≡ drop 1 (words_of line))
next_word line text start end s t e =
    let p : start ≡ first_letter line = s ∙ place (λ b. not (eqb b 32)) line in
    let q : end ≡ first_space text = e ∙ place (λ b. eqb b 32) text in
    rw (q, t, p) (found line)
