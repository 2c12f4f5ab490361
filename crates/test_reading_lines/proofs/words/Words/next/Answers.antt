use Rattle.std.proofs.Common.{◌∙◌}
use Rattle.std.proofs.lemmas.List.{take_rest}
use Rattle.test_reading_lines.proofs.WordLaws.{next_word}
use Rattle.test_reading_lines.proofs.words.Words.next.Goals as goal

pub returns-clause-word : goal.returns-clause-word
returns-clause-word c =
    let line = c.self.inside.rest.now in
    let start = rw c.word_start.ensures at c.unwrap_or-start.ensures in
    let end = rw c.word_end.ensures at c.unwrap_or-end.ensures in
    let found = next_word line _ _ _ start (take_rest line c.unwrap_or-start.result) end in
    c.split_at.ensures.front ∙ rw c.self.view_is at found.0

pub returns-clause-rest : goal.returns-clause-rest
returns-clause-rest c =
    let line = c.self.inside.rest.now in
    let start = rw c.word_start.ensures at c.unwrap_or-start.ensures in
    let end = rw c.word_end.ensures at c.unwrap_or-end.ensures in
    let found = next_word line _ _ _ start (take_rest line c.unwrap_or-start.result) end in
    rw c.split_at.ensures.back (rw c.self.view_is at found.1)
