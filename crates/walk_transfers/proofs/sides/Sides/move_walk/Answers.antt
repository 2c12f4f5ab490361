use Rattle.walk_operations.proofs.Memoryless.{walk_memoryless, with_any}
use Rattle.walk_transfers.proofs.Walks.{move_memoryless}
use Rattle.walk_transfers.proofs.sides.Sides.move_walk.Goals as goal

pub returns-then-unmasked : goal.returns-then-unmasked
returns-then-unmasked c = with_any (walk_memoryless (move_memoryless c.args.self) c.args.allowance) c.walk_over.ensures

pub returns : goal.returns
returns c = with_any (walk_memoryless (move_memoryless c.args.self) c.args.allowance) c.walk_over-2.ensures
