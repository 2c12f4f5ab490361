-- One after the other, by whether the first paused.
use mathlib.Core.Bool.{Bool, true, false, cond}
use mathlib.Core.Path.{◌≡◌, refl}
use Rattle.walk_pausable.specs.Outcome.{Pausing, Outcome, Paused, Ended, if_paused}

module _ {A S : Type 0} (answers : Pausing A) (o : Outcome A S) where
  -- what holds of both ways that it can go
  pub by_pause :
      (next : S → Outcome A S) (R : Outcome A S → Type 0) →
      (Ended answers o → R o) → (Paused answers o → R (next o.state)) → R (if_paused answers o next)
  by_pause next R ended paused = by (answers.paused o.answer) refl
    where
      by : (t : Bool) → answers.paused o.answer ≡ t → R (cond t (next o.state) o)
      by true e = paused e
      by false e = ended e

  pub paused_next : (next : S → Outcome A S) → Paused answers o → if_paused answers o next ≡ next o.state
  paused_next next e = rw e

  pub ended_stays : (next : S → Outcome A S) → Ended answers o → if_paused answers o next ≡ o
  ended_stays next e = rw e

  -- the second matters only where the first paused
  pub same_next :
      (f g : S → Outcome A S) → (Paused answers o → f o.state ≡ g o.state) →
      if_paused answers o f ≡ if_paused answers o g
  same_next f g same = by_pause f (λ x. x ≡ if_paused answers o g) (λ e. rw e) (λ e. rw e (same e))

  pub next_assoc :
      (f g : S → Outcome A S) →
      if_paused answers (if_paused answers o f) g ≡ if_paused answers o (λ s. if_paused answers (f s) g)
  next_assoc f g =
      by_pause f (λ x. if_paused answers x g ≡ if_paused answers o (λ s. if_paused answers (f s) g))
      (λ e. rw e) (λ e. rw e)
