use Rattle.std.proofs.Common.{ap, ◌∙◌}
use Rattle.registers.specs.Written.{written}
use Rattle.walk_operands.proofs.Fits.{fits_at}
use Rattle.walk_operations.proofs.OperationLaws.{unit_on, unit_off, after_vector, after_scalar}
use Rattle.walk_operations.proofs.operation.OperationPlan.unit.Goals.{then-self-2, else-self-2}
use Rattle.walk_operations.proofs.operation.OperationPlan.unit.Goals as goal

pub at-to-requires : goal.at-to-requires
at-to-requires c = fits_at _ _ _ c.requires.1 c.requires.0.destination

pub write_within-requires : goal.write_within-requires
write_within-requires c = rw c.at-to.ensures (fits_at _ _ _ c.requires.1 c.requires.0.destination)

pub returns-then-self : goal.returns-then-self
returns-then-self c =
    unit_on _ _ _ _ _ _ c.is_on.ensures _ _ c.if-is_on.true c.element-value.ensures c.at-to.ensures
    c.write_within.ensures (after_vector _ _ _ _ _ c.if-self.true c.go_on.ensures)

pub returns-then-is_on : goal.returns-then-is_on
returns-then-is_on c =
    unit_on _ _ _ _ _ _ c.is_on.ensures _ _ c.if-is_on.true c.element-value.ensures c.at-to.ensures
    c.write_within.ensures (after_scalar _ _ _ _ _ c.if-self.false c.ended.ensures)

pub at-to-requires-then-self-2 : goal.at-to-requires-then-self-2
at-to-requires-then-self-2 c = fits_at _ _ _ c.requires.1 c.requires.0.destination

pub write_within-requires-then-self-2 : goal.write_within-requires-then-self-2
write_within-requires-then-self-2 c =
    rw c.at-to-then-self-2.ensures (fits_at _ _ _ c.requires.1 c.requires.0.destination)

pub returns : goal.returns
returns c =
    let registers = c.args.registers.now in
    unit_off _ _ _ _ _ _ c.is_on.ensures c.if-is_on.false
    (elim c.if-self-2.branch [
      | then-self-2 w ↦
          rw w.if-self-2.true
          (w.registers-is ∙ w.write_within-then-self-2.ensures
          ∙ ap (λ to. written registers to 0) w.at-to-then-self-2.ensures)
      | else-self-2 w ↦ rw w.if-self-2.false w.registers-is
    ])
    c.go_on-2.ensures
