-- A line of a file of readings: a call's name, its arguments, and `= answer value` or nothing, which is `= 0 0`.
use Rattle.std.specs.Prelude.{ℕ, cond, ◌&&◌, List, eqb, length, get_or, drop, Option, None, Some}
use Rattle.std.specs.Option.{option_and_then, option_map_or}
use Rattle.std.specs.Str.{bytes_eq}
use Rattle.test_reading_lines.specs.Words.{ascii, words_of, word_at, missing}
use Rattle.test_reading_lines.specs.Number.{up_to}
use Rattle.test_reading_lines.specs.Calls.{largest, call_of, limits_of, argument_of, after_argument}
use Rattle.test_reading_lines.specs.declared.call.Call.{Call}
use Rattle.test_reading_lines.specs.declared.line.Answered.{Answered}
use Rattle.test_reading_lines.specs.declared.line.CallLine.{CallLine}
use Rattle.test_reading_lines.specs.declared.line.Line.{Line}
use Rattle.test_reading_lines.specs.declared.line.Line.TheVariants as line

-- the last number in the table of answers
abbrev pub largest_answer : ℕ
largest_answer = 9

abbrev pub answered : ℕ → ℕ → Answered
answered answer value = record { answer = answer; value = value }

-- an answer and a value that could both be read
abbrev pub pair_of : Option ℕ → Option ℕ → Option Answered
pair_of (Some answer) (Some value) = Some (answered answer value)
pair_of (Some answer) None = None
pair_of None value = None

-- what the words after the arguments say: `=` and two numbers, or nothing
unfoldable pub expected_of : List (List ℕ) → Option Answered
expected_of words =
    cond (missing (word_at 0 words))
    (Some (answered 0 0))
    (cond (bytes_eq (word_at 0 words) (ascii "=") && missing (word_at 3 words))
    (pair_of (up_to largest_answer (word_at 1 words)) (up_to (largest 64) (word_at 2 words)))
    None)

-- a line of four parts that could all be read
abbrev pub whole_of : Call → Option ℕ → Option ℕ → Option Answered → Option CallLine
whole_of call (Some first) (Some second) (Some expected) =
    Some (record { call = call; first = first; second = second; expected = expected })
whole_of call (Some first) (Some second) None = None
whole_of call (Some first) None expected = None
whole_of call None second expected = None

-- a call, and the words after its name
unfoldable pub call_with : Call → List (List ℕ) → Option CallLine
call_with call words =
    let limits = limits_of call in
    let rest = after_argument limits.0 words in
    whole_of call (argument_of limits.0 words) (argument_of limits.1 rest)
    (expected_of (after_argument limits.1 rest))

-- a call by its name
unfoldable pub call_line : List (List ℕ) → Option CallLine
call_line words = option_and_then (λ call. call_with call (drop 1 words)) (call_of (word_at 0 words))

-- `#` begins the name of a reading, and `-` a note; an empty line is one too
unfoldable pub line_of : List ℕ → Line
line_of text =
    cond (eqb (length text) 0) line.Note
    (cond (eqb (get_or text 0 0) 35) line.Name
    (cond (eqb (get_or text 0 0) 45) line.Note (option_map_or line.Call (call_line (words_of text)) line.Damaged)))
