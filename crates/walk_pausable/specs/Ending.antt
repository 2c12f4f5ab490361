-- Where a walk that does not pause comes to its end.
use Rattle.std.specs.Prelude.{ℕ, ◌<◌, ◌≡◌}
use Rattle.walk_pausable.specs.Outcome.{Pausing, Outcome, Paused, Ended}
use Rattle.walk_pausable.specs.Walk.{walk}

module _ {A S : Type 0} (answers : Pausing A) (unit : S → Outcome A S) where
  -- fewer than n units paused, and the next one, from the state that they left, gives the outcome o
  pub record EndsAfter (n : ℕ) (s : S) (o : Outcome A S) : Type 0 where
    pub units : ℕ
    pub fewer : units < n
    pub paused : Paused answers (walk answers unit units s)
    pub last : unit (walk answers unit units s).state ≡ o

  -- so the state at a fault is the one that the units before it left, with what the faulting unit did
  abbrev pub EndingLaw : Type 0
  EndingLaw = (n : ℕ) (s : S) → Ended answers (walk answers unit n s) → EndsAfter n s (walk answers unit n s)
