use mathlib.Core.Path.{◌∙◌}
use Rattle.bits.specs.Lists.{all}
use Rattle.walk_plans.specs.Operands.{checked_operands}
use Rattle.walk_plans.proofs.Again.{checked_again}
use Rattle.walk_plans.proofs.checks.checked.Goals as goal

pub returns-in-Register : goal.returns-in-Register
returns-in-Register c =
    let s = c in
    rw (s.in-Operation.is, c.in-Register.is) c.checked_operands.ensures

pub returns-in-Immediate : goal.returns-in-Immediate
returns-in-Immediate c =
    let s = c in
    rw (s.in-Operation.is, c.in-Immediate.is)
    (c.checked_operands-in-Immediate.ensures ∙ checked_again _ _ _)

pub returns-in-Load : goal.returns-in-Load
returns-in-Load c =
    rw c.in-Load.is (c.checked_operands-in-Load.ensures ∙ checked_again _ _ _)

pub returns-in-Store : goal.returns-in-Store
returns-in-Store c =
    rw c.in-Store.is (c.checked_operands-in-Store.ensures ∙ checked_again _ _ _)

pub returns-in-Move : goal.returns-in-Move
returns-in-Move c =
    rw c.in-Move.is (c.checked_operands-in-Move.ensures ∙ checked_again _ _ _)

pub returns-in-Unknown : goal.returns-in-Unknown
unfolding checked_operands all
returns-in-Unknown c = rw c.in-Unknown.is
