-- What a line comes to, and the lines counted.
use Rattle.std.specs.Prelude.{ℕ, ◌+◌, ◌-◌, ◌^◌, Bool, true, false, cond, ◌&&◌, ltb, eqb}
use Rattle.test_reading_lines.specs.declared.line.Answered.{Answered}
use Rattle.test_reading_lines.specs.declared.line.Line.{Line}
use Rattle.test_reading_lines.specs.declared.line.Line.TheVariants as line
use Rattle.test_reading_lines.specs.declared.tally.Outcome.{Outcome}
use Rattle.test_reading_lines.specs.declared.tally.Outcome.TheVariants.{Name, Note, Agrees, Differs, Damaged}
use Rattle.test_reading_lines.specs.declared.tally.Tally.{Tally}

-- by whether a call answered as its line says
abbrev pub compared : Bool → Outcome
compared true = Agrees
compared false = Differs

-- both the number and the value are compared
unfoldable pub outcome_of : Line → Answered → Outcome
outcome_of line.Name came = Name
outcome_of line.Note came = Note
outcome_of line.Damaged came = Damaged
outcome_of (line.Call call) came =
    compared (eqb came.answer call.expected.answer && eqb came.value call.expected.value)

abbrev pub tally : ℕ → ℕ → ℕ → ℕ → ℕ → Tally
tally readings agree differ damaged line =
    record { readings = readings; agree = agree; differ = differ; damaged = damaged; line = line }

-- a count stays at the largest number of 64 bits
unfoldable pub one_more : ℕ → ℕ
one_more n = cond (ltb n (2 ^ 64 - 1)) (n + 1) n

-- a line more
unfoldable pub with_outcome : Outcome → Tally → Tally
with_outcome Name t = tally (one_more t.readings) t.agree t.differ t.damaged (one_more t.line)
with_outcome Note t = tally t.readings t.agree t.differ t.damaged (one_more t.line)
with_outcome Agrees t = tally t.readings (one_more t.agree) t.differ t.damaged (one_more t.line)
with_outcome Differs t = tally t.readings t.agree (one_more t.differ) t.damaged (one_more t.line)
with_outcome Damaged t = tally t.readings t.agree t.differ (one_more t.damaged) (one_more t.line)

-- a file more, whose lines are numbered anew; one that could not be read whole counts as a damaged line
unfoldable pub with_file : Bool → Tally → Tally
with_file true t = tally t.readings t.agree t.differ t.damaged 0
with_file false t = tally t.readings t.agree t.differ (one_more t.damaged) 0
