-- What is printed of an answer and of the counts.
use Rattle.std.specs.Prelude.{ℕ, false, List, ◌++◌, codes}
use Rattle.std.specs.Fmt.{digits}
use Rattle.test_reading_lines.specs.declared.line.Answered.{Answered}
use Rattle.test_reading_lines.specs.declared.tally.Tally.{Tally}

-- the number of the answer, and its value in hex
abbrev pub answered_text : Answered → List ℕ
answered_text a = digits 10 false a.answer ++ codes " 0x" ++ digits 16 false a.value

-- the counts of all files
abbrev pub tally_text : Tally → List ℕ
tally_text t =
    digits 10 false t.readings ++ codes " readings, " ++ digits 10 false t.agree ++ codes " lines agree, "
    ++ digits 10 false t.differ ++ codes " differ, " ++ digits 10 false t.damaged ++ codes " damaged"
