-- On from a pair, by one test of each side against an end that is 0 where the instruction has a single element.
use Prim.Native.Nat.{ℕ, ◌+◌, ◌<◌, ◌≤◌}
use mathlib.Core.Bool.{Bool, true, false, cond, ◌&&◌}
use mathlib.Core.Logic.{◌⊎◌, ⊎_elim}
use mathlib.Core.Path.{◌≡◌, refl}
use native.Mathlib.Omega.{arith}
use borrow.Author.Tests.{le-leb, lt-leb}
use lib.Dec.{leb}
use Rattle.walk_pairs.specs.declared.Side.{Side}
use Rattle.walk_pairs.specs.Side.{next, past}
use Rattle.walk_operations.specs.declared.position.Position.{Position}
use Rattle.walk_operations.specs.Context.{ended, onward}
use Rattle.walk_transfers.specs.declared.sides.Sides.{Sides}
use Rattle.walk_transfers.specs.Transfer.{after_pair}

module _ (s : Side) (vl i : ℕ) where
  -- a side that doesn't walk stays below VL
  next_past : i < vl → vl ≤ next s i → past s vl (next s i) ≡ true
  unfolding next past
  next_past h = by s.walks
    where
      by : (t : Bool) → vl ≤ cond t (i + 1) i → (t && leb vl (cond t (i + 1) i)) ≡ true
      by true e = le-leb vl (i + 1) e
      by false e = absurd (omega arith)

  next_below : next s i < vl → past s vl (next s i) ≡ false
  unfolding past
  next_below h = by s.walks
    where
      by : (t : Bool) → (t && leb vl (next s i)) ≡ false
      by true = lt-leb vl (next s i) h
      by false = refl

abbrev pub Ends : Sides → ℕ → Type 0
Ends s end = ((s.single ≡ true) × (end ≡ 0)) ⊎ ((s.single ≡ false) × (end ≡ s.vl))

module _ (s : Sides) (bytes : ℕ) (position : Position) (i j end : ℕ) (h : i < s.vl) (k : j < s.vl) where
  pub ends_by_source : Ends s end → end ≤ next s.source i → ended bytes position ≡ after_pair s bytes position i j
  unfolding after_pair
  ends_by_source ends e =
      ⊎_elim (λ w. rw w.0)
      (λ w. rw (w.0, next_past s.source s.vl i h (rw (← w.1) e))) ends

  pub ends_by_destination :
      Ends s end → next s.source i < end → end ≤ next s.destination j →
      ended bytes position ≡ after_pair s bytes position i j
  unfolding after_pair
  ends_by_destination ends d e =
      ⊎_elim (λ w. absurd (omega (arith, d, w.1)))
      (λ w.
      rw (
        w.0,
        next_below s.source s.vl i (rw (← w.1) d),
        next_past s.destination s.vl j k (rw (← w.1) e),
      )) ends

  pub goes_on :
      Ends s end → next s.source i < end → next s.destination j < end →
      onward position (next s.source i) (next s.destination j) ≡ after_pair s bytes position i j
  unfolding after_pair
  goes_on ends d e =
      ⊎_elim (λ w. absurd (omega (arith, d, w.1)))
      (λ w.
      rw (
        w.0,
        next_below s.source s.vl i (rw (← w.1) d),
        next_below s.destination s.vl j (rw (← w.1) e),
      )) ends
