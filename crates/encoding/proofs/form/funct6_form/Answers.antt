-- After the code stand the results, in the order of the match.
use mathlib.Core.Path.{sym, ◌∙◌}
use mathlib.Core.List.{[]}
use Rattle.encoding.specs.Listing.{funct6_rows, first_form}
use Rattle.encoding.proofs.Codes.{by_funct6}
use Rattle.encoding.proofs.Passed.{pass_long, Apart}
use Rattle.encoding.proofs.form.funct6_form.Goals as goal

pub returns-in-147 : goal.returns-in-147
unfolding first_form funct6_rows
returns-in-147 c = rw (by_funct6 _ _ c.code.ensures c.ranges.word, c.in-147.is)

pub returns-in-659 : goal.returns-in-659
unfolding first_form funct6_rows
returns-in-659 c = rw (by_funct6 _ _ c.code.ensures c.ranges.word, c.in-659.is)

pub returns-in-17043 : goal.returns-in-17043
unfolding first_form funct6_rows
returns-in-17043 c = rw (by_funct6 _ _ c.code.ensures c.ranges.word, c.in-17043.is)

pub returns-in_default : goal.returns-in_default
unfolding Apart first_form funct6_rows
returns-in_default c = sym (by_funct6 _ _ c.code.ensures c.ranges.word ∙ pass_long _ _ funct6_rows [] c.in_default.in_default-own.rest)
