-- The turns of a loop that walks in place: what is left to walk from here is the walk from the start.
use Prim.Native.Nat.{ℕ, zero, suc, ◌-◌, ◌<◌, ◌≤◌}
use mathlib.Core.Bool.{Bool, true, not}
use mathlib.Core.Path.{◌≡◌, refl, sym, ◌∙◌}
use borrow.Author.Tests.{not-true}
use native.Mathlib.Numerals.{sub-one}
use native.Mathlib.Omega.{arith}
use Rattle.walk_pausable.specs.Outcome.{Pausing, Outcome, outcome, Paused, if_paused}
use Rattle.walk_pausable.specs.Walk.{walk}
use Rattle.walk_pausable.proofs.Pause.{paused_next, ended_stays}

module _ {A S : Type 0} (answers : Pausing A) (unit : S → Outcome A S) where
  walk_step :
      (n : ℕ) (s : S) → 0 < n → walk answers unit n s ≡ if_paused answers (unit s) (walk answers unit (n - 1))
  unfolding walk
  walk_step zero s h = absurd (omega arith)
  walk_step (suc n) s h = rw sub-one

  -- a walk that has a unit left goes by what its first unit does
  pub walk_same :
      (n : ℕ) (s t : S) → 0 < n → unit s ≡ unit t → walk answers unit n s ≡ walk answers unit n t
  walk_same n s t h e = walk_step n s h ∙ rw e (sym (walk_step n t h))

  -- a unit that paused
  pub walk_more :
      (n : ℕ) (s : S) (o : Outcome A S) → 0 < n → o ≡ unit s → Paused answers o →
      walk answers unit (n - 1) o.state ≡ walk answers unit n s
  walk_more n s o h e p = sym (walk_step n s h ∙ rw (← e) (paused_next answers o (walk answers unit (n - 1)) p))

  -- a unit that did not, as the flag says that the loop tests
  pub walk_end :
      (n : ℕ) (s : S) (o : Outcome A S) {flag : Bool} → 0 < n → o ≡ unit s →
      flag ≡ answers.paused o.answer → not flag ≡ true → o ≡ walk answers unit n s
  walk_end n s o {flag} h e said f =
      let ended = sym said ∙ not-true flag f in
      sym (walk_step n s h ∙ rw (← e) (ended_stays answers o (walk answers unit (n - 1)) ended))

  -- none left
  pub walk_none : (n : ℕ) (s : S) → n ≤ 0 → outcome answers.pause s ≡ walk answers unit n s
  unfolding walk
  walk_none zero s h = refl
  walk_none (suc n) s h = absurd (omega arith)
