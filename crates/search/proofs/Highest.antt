-- The search from the highest index down.
use Prim.Native.Nat.{ℕ, zero, suc, ◌+◌, ◌-◌, ◌≤◌, ◌<◌}
use mathlib.Core.Path.{◌≡◌, refl, sym, ◌∙◌, ap}
use mathlib.Core.Bool.{Bool, true, false, and-false}
use mathlib.Core.List.{List}
use lib.Dec.{eqb, ltb}
use lib.ListN.{get_or}
use native.Mathlib.Omega.{arith}
use borrow.Author.Tests.{lt-ltb, le-ltb, le-leb, lt-leb, ltb-true, ltb-false, eqb-true, eqb-false}
use Rattle.search.specs.declared.Table.{Table}
use Rattle.search.specs.declared.Table.TheVariants.{Register, Predicate}
use Rattle.std.proofs.Common.{Some, None}
use Rattle.tables.specs.declared.enabled.Range.{Range}
use Rattle.search.specs.Search.{entry_answers, candidate, highest, held_entry}

module _ (test : ℕ → Bool) where
  highest_yes : (i : ℕ) → 0 < i → test (i - 1) ≡ true → highest test i ≡ Some (i - 1)
  unfolding highest
  highest_yes zero h e = absurd (omega arith)
  highest_yes (suc n) h e = let one : suc n - 1 ≡ n = omega arith in rw (rw one at e, one)

  highest_no : (i : ℕ) → 0 < i → test (i - 1) ≡ false → highest test i ≡ highest test (i - 1)
  unfolding highest
  highest_no zero h e = absurd (omega arith)
  highest_no (suc n) h e = let one : suc n - 1 ≡ n = omega arith in rw (rw one at e, one)

  highest_none : (n : ℕ) → ((k : ℕ) → k < n → test k ≡ false) → highest test n ≡ None
  unfolding highest
  highest_none zero none = refl
  highest_none (suc n) none = rw (none n (omega arith)) (highest_none n (λ k h. none k (omega arith)))

  -- indices from `low` on that all fail the test make no difference
  highest_skip :
      (low n : ℕ) → low ≤ n → ((k : ℕ) → low ≤ k → k < n → test k ≡ false) → highest test n ≡ highest test low
  unfolding highest
  highest_skip low zero h none = let z : low ≡ 0 = omega arith in rw z
  highest_skip low (suc n) h none = by (ltb n low) refl (λ l. highest_skip low n l (λ k m b. none k m (omega arith)))
    where
      by :
          (t : Bool) → ltb n low ≡ t → (low ≤ n → highest test n ≡ highest test low) →
          highest test (suc n) ≡ highest test low
      by true e next = let z : suc n ≡ low = omega (arith, ltb-true n low e) in ap (highest test) z
      by false e next = let l = ltb-false n low e in rw (none n l (omega arith)) (next l)

highest_same : (test other : ℕ → Bool) → ((k : ℕ) → test k ≡ other k) → (n : ℕ) → highest test n ≡ highest other n
unfolding highest
highest_same test other same zero = refl
highest_same test other same (suc n) = rw (same n, highest_same test other same n)

module _ (table : Table) (entries : List ℕ) (range : Range) (key : ℕ) where
  abbrev answers : ℕ → Bool
  answers k = entry_answers table key (get_or entries k 0)

  abbrev holds : ℕ → Bool
  holds = candidate table entries range key

  outside_high : (k : ℕ) → range.end ≤ k → holds k ≡ false
  unfolding candidate
  outside_high k h = rw (le-ltb k range.end h, and-false)

  outside_low : (k : ℕ) → k < range.first → holds k ≡ false
  unfolding candidate
  outside_low k h = rw (lt-leb range.first k h)

  inside : (k : ℕ) → range.first ≤ k → k < range.end → holds k ≡ answers k
  unfolding candidate
  inside k l h = rw (le-leb range.first k l, lt-ltb k range.end h)

  silent : (k : ℕ) → answers k ≡ false → holds k ≡ false
  unfolding candidate
  silent k e = rw (e, and-false)

  pub held_start : range.end ≤ 16 → held_entry table entries range key ≡ highest holds range.end
  unfolding held_entry
  held_start low = highest_skip holds range.end 16 low (λ k h b. outside_high k h)

  pub held_none : (i : ℕ) → i ≤ range.first → highest holds i ≡ None
  held_none i h = highest_none holds i (λ k l. outside_low k (omega arith))

  module _ (i : ℕ) (above : range.first < i) (below : i ≤ range.end) where
    pub held_yes : answers (i - 1) ≡ true → highest holds i ≡ Some (i - 1)
    held_yes e = highest_yes holds i (omega arith) (inside (i - 1) (omega arith) (omega arith) ∙ e)

    pub held_no : answers (i - 1) ≡ false → highest holds i ≡ highest holds (i - 1)
    held_no e = highest_no holds i (omega arith) (inside (i - 1) (omega arith) (omega arith) ∙ e)

-- an empty entry answers to no key
empty_silent : (table : Table) (key : ℕ) → entry_answers table key 0 ≡ false
unfolding entry_answers
empty_silent Register key = refl
empty_silent Predicate key = refl

module _ (table : Table) (entries : List ℕ) (first end : ℕ) (empty : get_or entries end 0 ≡ 0) (key : ℕ) where
  abbrev shorter : Range
  shorter = record { first = first; end = end }

  abbrev longer : Range
  longer = record { first = first; end = end + 1 }

  ltb_same : (k : ℕ) → (k ≡ end → ⊥) → ltb k end ≡ ltb k (end + 1)
  ltb_same k other = by (ltb k end) refl
    where
      by : (t : Bool) → ltb k end ≡ t → ltb k end ≡ ltb k (end + 1)
      by true e = rw (e, lt-ltb k (end + 1) (omega (arith, ltb-true k end e)))
      by false e = rw (e, le-ltb k (end + 1) (omega (arith, ltb-false k end e, other)))

  same_candidate : (k : ℕ) → candidate table entries shorter key k ≡ candidate table entries longer key k
  same_candidate k = by (eqb k end) refl
    where
      by : (t : Bool) → eqb k end ≡ t → candidate table entries shorter key k ≡ candidate table entries longer key k
      by true e =
          let quiet : entry_answers table key (get_or entries k 0) ≡ false =
          rw (eqb-true k end e, empty) (empty_silent table key)
          in
          silent table entries shorter key k quiet ∙ sym (silent table entries longer key k quiet)
      by false e = unfold candidate in rw (ltb_same k (eqb-false k end e))

  -- the last entry of a range makes no difference where it is empty
  pub held_shorter : held_entry table entries shorter key ≡ held_entry table entries longer key
  unfolding held_entry
  held_shorter = highest_same _ _ same_candidate 16
