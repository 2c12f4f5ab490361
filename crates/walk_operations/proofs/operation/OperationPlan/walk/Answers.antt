use Rattle.walk_operations.proofs.Memoryless.{walk_memoryless, with_any, operation_memoryless}
use Rattle.walk_operations.proofs.operation.OperationPlan.walk.Goals as goal

pub returns : goal.returns
returns c = with_any (walk_memoryless (operation_memoryless c.args.self) c.args.allowance) c.walk_over.ensures
