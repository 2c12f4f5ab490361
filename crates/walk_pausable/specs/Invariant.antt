-- Properties of states that work keeps.
use Rattle.walk_pausable.specs.Outcome.{Pausing, Outcome, Paused}

module _ {A S : Type 0} where
  -- whatever the work answers
  abbrev pub Keeps : (S → Type 0) → (S → Outcome A S) → Type 0
  Keeps Q work = (s : S) → Q s → Q (work s).state

  -- where it pauses
  abbrev pub PauseKeeps : Pausing A → (S → Type 0) → (S → Outcome A S) → Type 0
  PauseKeeps answers Q work = (s : S) → Q s → Paused answers (work s) → Q (work s).state
