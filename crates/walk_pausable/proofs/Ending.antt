-- A walk that does not pause ends at one of its units.
use Prim.Native.Nat.{ℕ, suc}
use mathlib.Core.Bool.{true≢false}
use mathlib.Core.Path.{◌≡◌, refl, sym, ◌∙◌}
use native.Mathlib.Omega.{arith}
use Rattle.walk_pausable.specs.Outcome.{Pausing, Outcome, Paused, Ended}
use Rattle.walk_pausable.specs.Walk.{walk}
use Rattle.walk_pausable.specs.Call.{Prepared, ready, called}
use Rattle.walk_pausable.specs.Ending.{EndsAfter, EndingLaw}
use Rattle.walk_pausable.proofs.Walk.{walk_induction}
use Rattle.walk_pausable.proofs.Call.{called_ready}

module _ {A S : Type 0} (answers : Pausing A) (unit : S → Outcome A S) where
  ends_first : (n : ℕ) (s : S) → EndsAfter answers unit (suc n) s (unit s)
  unfolding walk
  ends_first n s = record { units = 0; fewer = omega arith; paused = answers.pauses; last = refl }

  ends_later :
      (n : ℕ) (s : S) (o : Outcome A S) → Paused answers (unit s) → EndsAfter answers unit n (unit s).state o →
      EndsAfter answers unit (suc n) s o
  unfolding walk
  ends_later n s o e r = record {
    units = suc r.units;
    fewer = omega (arith, r.fewer);
    paused = rw e r.paused;
    last = rw e r.last;
  }

  pub walk_ending : EndingLaw answers unit
  walk_ending =
      walk_induction answers unit (λ n s o. Ended answers o → EndsAfter answers unit n s o)
      (λ s e. absurd (true≢false (sym answers.pauses ∙ e)))
      (λ n s e _. ends_first n s)
      (λ n s o e rest ended. ends_later n s o e (rest ended))

module _ {A S P : Type 0} (answers : Pausing A) (prepare : S → Prepared A P) (unit : P → S → Outcome A S) where
  pub call_ending :
      (n : ℕ) (s : S) {p : P} → prepare s ≡ ready p → Ended answers (called answers prepare unit n s) →
      EndsAfter answers (unit p) n s (called answers prepare unit n s)
  call_ending n s {p} r = rw (called_ready answers prepare unit n s r) (walk_ending answers (unit p) n s)
