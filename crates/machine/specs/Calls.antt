-- How the calls answer.
use Rattle.std.specs.Prelude.{ℕ, Bool, cond}
use Rattle.answers.specs.declared.Answer.{Answer}
use Rattle.answers.specs.declared.Answer.TheVariants.{Done}
use Rattle.answers.specs.Answer.{accepts}
use Rattle.answers.specs.Verdict.{verdict}
use Rattle.machine.specs.declared.Machine.{Machine}
use Rattle.machine.specs.declared.Reply.{Reply}
use Rattle.machine.specs.Shape.{in_shape}

-- a refusal changes nothing
abbrev pub refuse : Machine → Answer → Reply
refuse m answer = record { answer = answer; machine = m }

abbrev pub done : Machine → ℕ → Reply
done m value = record { answer = Done value; machine = m }

-- A setting or reading call: whether its entry or register exists, its own answer, and what it replies where nothing
-- refuses it.
abbrev pub guarded : Machine → Bool → Answer → Reply → Reply
guarded m exists own reply =
    let answer = verdict (in_shape m) exists own in
    cond (accepts answer) reply (refuse m answer)
