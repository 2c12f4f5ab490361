-- What a piece of work answers and leaves, and which answers are a pause.
use Rattle.std.specs.Prelude.{Bool, true, false, cond, ◌≡◌}

-- a test of answers for a pause, and an answer that passes it
pub record Pausing (A : Type 0) : Type 0 where
  pub paused : A → Bool
  pub pause : A
  pub pauses : paused pause ≡ true

pub record Outcome (A S : Type 0) : Type 0 where
  pub answer : A
  pub state : S

module _ {A S : Type 0} where
  abbrev pub outcome : A → S → Outcome A S
  outcome a s = record { answer = a; state = s }

  abbrev pub Paused : Pausing A → Outcome A S → Type 0
  Paused answers o = answers.paused o.answer ≡ true

  -- any other answer
  abbrev pub Ended : Pausing A → Outcome A S → Type 0
  Ended answers o = answers.paused o.answer ≡ false

  -- one after the other, the second only where the first paused
  abbrev pub if_paused : Pausing A → Outcome A S → (S → Outcome A S) → Outcome A S
  if_paused answers o next = cond (answers.paused o.answer) (next o.state) o
