-- Walks, by induction over their units.
use Prim.Native.Nat.{ℕ, zero, suc, ◌+◌}
use mathlib.Core.Path.{◌≡◌, sym, ◌∙◌}
use native.Mathlib.Nat.{zero-add, suc-add}
use Rattle.walk_pausable.specs.Outcome.{Pausing, Outcome, outcome, Paused, Ended, if_paused}
use Rattle.walk_pausable.specs.Walk.{walk}
use Rattle.walk_pausable.proofs.Pause.{by_pause, same_next, next_assoc}

module _ {A S : Type 0} (answers : Pausing A) (unit : S → Outcome A S) where
  -- no units; a unit that ends the walk; a unit that paused, and the walk from there
  pub walk_induction :
      (R : ℕ → S → Outcome A S → Type 0) → ((s : S) → R 0 s (outcome answers.pause s)) →
      ((n : ℕ) (s : S) → Ended answers (unit s) → R (suc n) s (unit s)) →
      ((n : ℕ) (s : S) (o : Outcome A S) → Paused answers (unit s) → R n (unit s).state o → R (suc n) s o) →
      (n : ℕ) (s : S) → R n s (walk answers unit n s)
  unfolding walk
  walk_induction R none end more zero s = none s
  walk_induction R none end more (suc n) s =
      by_pause answers (unit s) (walk answers unit n) (R (suc n) s) (end n s)
      (λ e. more n s (walk answers unit n (unit s).state) e (walk_induction R none end more n (unit s).state))

  -- a walk of a + b units is one of a and, where it paused, one of b
  pub walk_add :
      (a b : ℕ) (s : S) →
      walk answers unit (a + b) s ≡ if_paused answers (walk answers unit a s) (walk answers unit b)
  unfolding walk
  walk_add zero b s = rw (zero-add, answers.pauses)
  walk_add (suc a) b s =
      rw suc-add
      (same_next answers (unit s) (walk answers unit (a + b))
      (λ t. if_paused answers (walk answers unit a t) (walk answers unit b))
      (λ e. walk_add a b (unit s).state)
      ∙ sym (next_assoc answers (unit s) (walk answers unit a) (walk answers unit b)))
