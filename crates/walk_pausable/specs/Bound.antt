-- How many units are enough: a measure that every pause makes smaller, and that is never 0.
use Rattle.std.specs.Prelude.{ℕ, ◌<◌, ◌≤◌}
use Rattle.walk_pausable.specs.Outcome.{Pausing, Outcome, Paused, Ended}
use Rattle.walk_pausable.specs.Walk.{walk}
use Rattle.walk_pausable.specs.Invariant.{PauseKeeps}

module _ {A S : Type 0} (answers : Pausing A) (unit : S → Outcome A S) (Keep : S → Type 0) (measure : S → ℕ) where
  pub record Bounded : Type 0 where
    pub positive : (s : S) → Keep s → 0 < measure s
    pub kept : PauseKeeps answers Keep unit
    pub falls : (s : S) → Keep s → Paused answers (unit s) → measure (unit s).state < measure s

  -- as many units as the measure says
  abbrev pub Enough : ℕ → S → Type 0
  Enough n s = measure s ≤ n

  -- a walk that may do so many does not pause
  abbrev pub BoundLaw : Type 0
  BoundLaw = (n : ℕ) (s : S) → Keep s → Enough n s → Ended answers (walk answers unit n s)
