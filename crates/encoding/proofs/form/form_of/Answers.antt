-- After the calls stand the results, in the order of the match.
use mathlib.Core.Path.{refl, ◌∙◌}
use mathlib.Core.Logic.{⊎_elim, inl, inr}
use mathlib.Core.List.{◌++◌}
use borrow.Author.Tests.{ne_eqb}
use Rattle.encoding.specs.Listing.{funct3_rows, funct6_rows, funct7_rows, first_form}
use Rattle.encoding.proofs.Codes.{by_code, listed}
use Rattle.encoding.proofs.Passed.{pass_code, Apart}
use Rattle.bits.specs.Lists.{all}
use Rattle.encoding.proofs.form.form_of.Goals as goal

pub returns-in-147 : goal.returns-in-147
unfolding all first_form funct3_rows funct6_rows funct7_rows
returns-in-147 c =
    c.funct6_form.ensures
    ∙ rw (listed _ _ c.code.ensures, by_code _ _ c.code.ensures funct6_rows refl)
    (⊎_elim (λ k. rw k) (λ k. rw k) c.in-147.is)

pub returns-in_default : goal.returns-in_default
unfolding all first_form funct3_rows funct6_rows funct7_rows Apart
returns-in_default c =
    let r = c.in_default.in_default-own.rest in
    c.funct7_form.ensures
    ∙ rw (
      listed _ _ c.code.ensures,
      by_code _ _ c.code.ensures funct7_rows refl,
      pass_code _ _ _ funct3_rows (funct6_rows ++ funct7_rows) r.0,
      ne_eqb _ 0b001_0010011 (λ k. r.1 (inl k)),
      ne_eqb _ 0b101_0010011 (λ k. r.1 (inr k)),
    )

pub returns-in-3 : goal.returns-in-3
unfolding first_form funct3_rows funct6_rows funct7_rows
returns-in-3 c = rw (listed _ _ c.code.ensures, c.in-3.is)

pub returns-in-131 : goal.returns-in-131
unfolding first_form funct3_rows funct6_rows funct7_rows
returns-in-131 c = rw (listed _ _ c.code.ensures, c.in-131.is)

pub returns-in-259 : goal.returns-in-259
unfolding first_form funct3_rows funct6_rows funct7_rows
returns-in-259 c = rw (listed _ _ c.code.ensures, c.in-259.is)

pub returns-in-387 : goal.returns-in-387
unfolding first_form funct3_rows funct6_rows funct7_rows
returns-in-387 c = rw (listed _ _ c.code.ensures, c.in-387.is)

pub returns-in-515 : goal.returns-in-515
unfolding first_form funct3_rows funct6_rows funct7_rows
returns-in-515 c = rw (listed _ _ c.code.ensures, c.in-515.is)

pub returns-in-643 : goal.returns-in-643
unfolding first_form funct3_rows funct6_rows funct7_rows
returns-in-643 c = rw (listed _ _ c.code.ensures, c.in-643.is)

pub returns-in-771 : goal.returns-in-771
unfolding first_form funct3_rows funct6_rows funct7_rows
returns-in-771 c = rw (listed _ _ c.code.ensures, c.in-771.is)

pub returns-in-35 : goal.returns-in-35
unfolding first_form funct3_rows funct6_rows funct7_rows
returns-in-35 c = rw (listed _ _ c.code.ensures, c.in-35.is)

pub returns-in-163 : goal.returns-in-163
unfolding first_form funct3_rows funct6_rows funct7_rows
returns-in-163 c = rw (listed _ _ c.code.ensures, c.in-163.is)

pub returns-in-291 : goal.returns-in-291
unfolding first_form funct3_rows funct6_rows funct7_rows
returns-in-291 c = rw (listed _ _ c.code.ensures, c.in-291.is)

pub returns-in-419 : goal.returns-in-419
unfolding first_form funct3_rows funct6_rows funct7_rows
returns-in-419 c = rw (listed _ _ c.code.ensures, c.in-419.is)

pub returns-in-19 : goal.returns-in-19
unfolding first_form funct3_rows funct6_rows funct7_rows
returns-in-19 c = rw (listed _ _ c.code.ensures, c.in-19.is)

pub returns-in-275 : goal.returns-in-275
unfolding first_form funct3_rows funct6_rows funct7_rows
returns-in-275 c = rw (listed _ _ c.code.ensures, c.in-275.is)

pub returns-in-403 : goal.returns-in-403
unfolding first_form funct3_rows funct6_rows funct7_rows
returns-in-403 c = rw (listed _ _ c.code.ensures, c.in-403.is)

pub returns-in-531 : goal.returns-in-531
unfolding first_form funct3_rows funct6_rows funct7_rows
returns-in-531 c = rw (listed _ _ c.code.ensures, c.in-531.is)

pub returns-in-787 : goal.returns-in-787
unfolding first_form funct3_rows funct6_rows funct7_rows
returns-in-787 c = rw (listed _ _ c.code.ensures, c.in-787.is)

pub returns-in-915 : goal.returns-in-915
unfolding first_form funct3_rows funct6_rows funct7_rows
returns-in-915 c = rw (listed _ _ c.code.ensures, c.in-915.is)

pub returns-in-27 : goal.returns-in-27
unfolding first_form funct3_rows funct6_rows funct7_rows
returns-in-27 c = rw (listed _ _ c.code.ensures, c.in-27.is)
