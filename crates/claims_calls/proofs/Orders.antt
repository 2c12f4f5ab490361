-- A list that names every part, and nothing else.
use Prim.Native.Nat.{ℕ, zero, suc, ◌<◌}
use mathlib.Core.Path.{◌≡◌, refl}
use mathlib.Core.Logic.{inl, inr}
use mathlib.Core.Bool.{Bool, true, false}
use mathlib.Core.List.{List, [], ◌∷◌, ◌++◌}
use lib.Dec.{eqb}
use native.Mathlib.Omega.{arith}
use borrow.Author.Tests.{eqb-true, eqb-false}
use Rattle.bits.specs.Lists.{Among}
use Rattle.claims_calls.specs.Copy.{Part, register_entry, predicate_entry, register, pc, state_word, IsPart}
use Rattle.claims_calls.specs.Copy.{each_below, every_register, every_entry, registers_first, RegistersFirstIsWhole}
use Rattle.claims_calls.proofs.Parts.{by_part}

module _ (p : Part) where
  among_left : (xs ys : List Part) → Among p xs → Among p (xs ++ ys)
  among_left [] ys a = absurd a
  among_left (x ∷ xs) ys (inl e) = inl e
  among_left (x ∷ xs) ys (inr a) = inr (among_left xs ys a)

  among_right : (xs ys : List Part) → Among p ys → Among p (xs ++ ys)
  among_right [] ys a = a
  among_right (x ∷ xs) ys a = inr (among_right xs ys a)

  -- what an index below n gives
  among_each : (parts : ℕ → List Part) (n i : ℕ) → i < n → Among p (parts i) → Among p (each_below n parts)
  unfolding each_below
  among_each parts zero i h a = absurd (omega arith)
  among_each parts (suc n) i h a = by (eqb i n) refl (λ l. among_each parts n i l a)
    where
      by : (t : Bool) → eqb i n ≡ t → (i < n → Among p (each_below n parts)) → Among p (each_below n parts ++ parts n)
      by true e rest = among_right (each_below n parts) (parts n) (rw (← eqb-true i n e) a)
      by false e rest = among_left (each_below n parts) (parts n) (rest (omega (arith, eqb-false i n e)))

abbrev Only : List Part → Type 0
Only ps = (p : Part) → Among p ps → IsPart p

only_none : Only []
only_none p a = absurd a

only_one : (p : Part) (ps : List Part) → IsPart p → Only ps → Only (p ∷ ps)
only_one p ps l rest q (inl e) = rw e l
only_one p ps l rest q (inr a) = rest q a

only_both : (xs ys : List Part) → Only xs → Only ys → Only (xs ++ ys)
only_both [] ys a b p m = b p m
only_both (x ∷ xs) ys a b p (inl e) = a p (inl e)
only_both (x ∷ xs) ys a b p (inr m) = only_both xs ys (λ q n. a q (inr n)) b p m

only_each : (parts : ℕ → List Part) (n : ℕ) → ((i : ℕ) → i < n → Only (parts i)) → Only (each_below n parts)
unfolding each_below
only_each parts zero each = only_none
only_each parts (suc n) each =
    only_both (each_below n parts) (parts n) (only_each parts n (λ i l. each i (omega arith))) (each n (omega arith))

pub registers_first_is_whole : RegistersFirstIsWhole
registers_first_is_whole =
    let arrays = every_register ++ every_entry in
    record {
      contains =
          by_part (λ p. IsPart p → Among p registers_first)
          (λ i l.
          let p = register_entry i in
          among_left p arrays _ (among_right p every_register every_entry (among_each p _ _ i l (inl refl))))
          (λ i l.
          let p = predicate_entry i in
          among_left p arrays _ (among_right p every_register every_entry (among_each p _ _ i l (inr (inl refl)))))
          (λ i l.
          let p = register i in
          among_left p arrays _ (among_left p every_register every_entry (among_each p _ _ i l (inl refl))))
          (λ u. among_right pc arrays _ (inl refl)) (λ u. among_right state_word arrays _ (inr (inl refl)));
      only =
          only_both arrays _
          (only_both every_register every_entry
          (only_each _ _ (λ i l. only_one (register i) [] l only_none))
          (only_each _ _ (λ i l.
          only_one (register_entry i) (predicate_entry i ∷ []) l (only_one (predicate_entry i) [] l only_none))))
          (only_one pc (state_word ∷ []) tt (only_one state_word [] tt only_none));
    }
