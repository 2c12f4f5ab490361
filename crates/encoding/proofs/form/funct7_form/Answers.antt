-- After the code stand the results, in the order of the match.
use mathlib.Core.Path.{sym, ◌∙◌}
use mathlib.Core.List.{[]}
use Rattle.encoding.specs.Listing.{funct7_rows, first_form}
use Rattle.encoding.proofs.Codes.{by_funct7}
use Rattle.encoding.proofs.Passed.{pass_long, Apart}
use Rattle.encoding.proofs.form.funct7_form.Goals as goal

pub returns-in-155 : goal.returns-in-155
unfolding first_form funct7_rows
returns-in-155 c = rw (by_funct7 _ _ c.code.ensures c.ranges.word, c.in-155.is)

pub returns-in-667 : goal.returns-in-667
unfolding first_form funct7_rows
returns-in-667 c = rw (by_funct7 _ _ c.code.ensures c.ranges.word, c.in-667.is)

pub returns-in-33435 : goal.returns-in-33435
unfolding first_form funct7_rows
returns-in-33435 c = rw (by_funct7 _ _ c.code.ensures c.ranges.word, c.in-33435.is)

pub returns-in-51 : goal.returns-in-51
unfolding first_form funct7_rows
returns-in-51 c = rw (by_funct7 _ _ c.code.ensures c.ranges.word, c.in-51.is)

pub returns-in-32819 : goal.returns-in-32819
unfolding first_form funct7_rows
returns-in-32819 c = rw (by_funct7 _ _ c.code.ensures c.ranges.word, c.in-32819.is)

pub returns-in-179 : goal.returns-in-179
unfolding first_form funct7_rows
returns-in-179 c = rw (by_funct7 _ _ c.code.ensures c.ranges.word, c.in-179.is)

pub returns-in-307 : goal.returns-in-307
unfolding first_form funct7_rows
returns-in-307 c = rw (by_funct7 _ _ c.code.ensures c.ranges.word, c.in-307.is)

pub returns-in-435 : goal.returns-in-435
unfolding first_form funct7_rows
returns-in-435 c = rw (by_funct7 _ _ c.code.ensures c.ranges.word, c.in-435.is)

pub returns-in-563 : goal.returns-in-563
unfolding first_form funct7_rows
returns-in-563 c = rw (by_funct7 _ _ c.code.ensures c.ranges.word, c.in-563.is)

pub returns-in-691 : goal.returns-in-691
unfolding first_form funct7_rows
returns-in-691 c = rw (by_funct7 _ _ c.code.ensures c.ranges.word, c.in-691.is)

pub returns-in-33459 : goal.returns-in-33459
unfolding first_form funct7_rows
returns-in-33459 c = rw (by_funct7 _ _ c.code.ensures c.ranges.word, c.in-33459.is)

pub returns-in-819 : goal.returns-in-819
unfolding first_form funct7_rows
returns-in-819 c = rw (by_funct7 _ _ c.code.ensures c.ranges.word, c.in-819.is)

pub returns-in-947 : goal.returns-in-947
unfolding first_form funct7_rows
returns-in-947 c = rw (by_funct7 _ _ c.code.ensures c.ranges.word, c.in-947.is)

pub returns-in-59 : goal.returns-in-59
unfolding first_form funct7_rows
returns-in-59 c = rw (by_funct7 _ _ c.code.ensures c.ranges.word, c.in-59.is)

pub returns-in-32827 : goal.returns-in-32827
unfolding first_form funct7_rows
returns-in-32827 c = rw (by_funct7 _ _ c.code.ensures c.ranges.word, c.in-32827.is)

pub returns-in-187 : goal.returns-in-187
unfolding first_form funct7_rows
returns-in-187 c = rw (by_funct7 _ _ c.code.ensures c.ranges.word, c.in-187.is)

pub returns-in-699 : goal.returns-in-699
unfolding first_form funct7_rows
returns-in-699 c = rw (by_funct7 _ _ c.code.ensures c.ranges.word, c.in-699.is)

pub returns-in-33467 : goal.returns-in-33467
unfolding first_form funct7_rows
returns-in-33467 c = rw (by_funct7 _ _ c.code.ensures c.ranges.word, c.in-33467.is)

pub returns-in-1075 : goal.returns-in-1075
unfolding first_form funct7_rows
returns-in-1075 c = rw (by_funct7 _ _ c.code.ensures c.ranges.word, c.in-1075.is)

pub returns-in-1203 : goal.returns-in-1203
unfolding first_form funct7_rows
returns-in-1203 c = rw (by_funct7 _ _ c.code.ensures c.ranges.word, c.in-1203.is)

pub returns-in-1331 : goal.returns-in-1331
unfolding first_form funct7_rows
returns-in-1331 c = rw (by_funct7 _ _ c.code.ensures c.ranges.word, c.in-1331.is)

pub returns-in-1459 : goal.returns-in-1459
unfolding first_form funct7_rows
returns-in-1459 c = rw (by_funct7 _ _ c.code.ensures c.ranges.word, c.in-1459.is)

pub returns-in-1587 : goal.returns-in-1587
unfolding first_form funct7_rows
returns-in-1587 c = rw (by_funct7 _ _ c.code.ensures c.ranges.word, c.in-1587.is)

pub returns-in-1715 : goal.returns-in-1715
unfolding first_form funct7_rows
returns-in-1715 c = rw (by_funct7 _ _ c.code.ensures c.ranges.word, c.in-1715.is)

pub returns-in-1843 : goal.returns-in-1843
unfolding first_form funct7_rows
returns-in-1843 c = rw (by_funct7 _ _ c.code.ensures c.ranges.word, c.in-1843.is)

pub returns-in-1971 : goal.returns-in-1971
unfolding first_form funct7_rows
returns-in-1971 c = rw (by_funct7 _ _ c.code.ensures c.ranges.word, c.in-1971.is)

pub returns-in-1083 : goal.returns-in-1083
unfolding first_form funct7_rows
returns-in-1083 c = rw (by_funct7 _ _ c.code.ensures c.ranges.word, c.in-1083.is)

pub returns-in-1595 : goal.returns-in-1595
unfolding first_form funct7_rows
returns-in-1595 c = rw (by_funct7 _ _ c.code.ensures c.ranges.word, c.in-1595.is)

pub returns-in-1723 : goal.returns-in-1723
unfolding first_form funct7_rows
returns-in-1723 c = rw (by_funct7 _ _ c.code.ensures c.ranges.word, c.in-1723.is)

pub returns-in-1851 : goal.returns-in-1851
unfolding first_form funct7_rows
returns-in-1851 c = rw (by_funct7 _ _ c.code.ensures c.ranges.word, c.in-1851.is)

pub returns-in-1979 : goal.returns-in-1979
unfolding first_form funct7_rows
returns-in-1979 c = rw (by_funct7 _ _ c.code.ensures c.ranges.word, c.in-1979.is)

pub returns-in_default : goal.returns-in_default
unfolding Apart first_form funct7_rows
returns-in_default c = sym (by_funct7 _ _ c.code.ensures c.ranges.word ∙ pass_long _ _ funct7_rows [] c.in_default.in_default-own.rest)
