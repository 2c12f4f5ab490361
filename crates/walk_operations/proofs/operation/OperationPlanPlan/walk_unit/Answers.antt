use Rattle.walk_operations.proofs.OperationLaws.{paused_below}
use Rattle.walk_operations.proofs.operation.OperationPlanPlan.walk_unit.Goals as goal

pub returns-clause-stands : goal.returns-clause-stands
returns-clause-stands c paused = (c.requires.0, paused_below _ _ _ _ _ c.unit.ensures paused)
