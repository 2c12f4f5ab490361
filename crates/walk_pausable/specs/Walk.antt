-- A walk: one unit of work after another, as long as each pauses and the allowance lasts.
use Rattle.std.specs.Prelude.{ℕ, zero, suc}
use Rattle.walk_pausable.specs.Outcome.{Pausing, Outcome, outcome, if_paused}

module _ {A S : Type 0} where
  unfoldable pub walk : Pausing A → (S → Outcome A S) → ℕ → S → Outcome A S
  walk answers unit zero s = outcome answers.pause s
  walk answers unit (suc n) s = if_paused answers (unit s) (walk answers unit n)
