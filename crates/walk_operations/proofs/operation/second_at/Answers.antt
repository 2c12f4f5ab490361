use Rattle.std.proofs.Common.{rules, ◌<◌}
use Rattle.walk_operations.proofs.OperationLaws.{register_at-below}
use Rattle.walk_operations.proofs.operation.second_at.Goals as goal

pub at-requires : goal.at-requires
at-requires c = register_at-below _ _ _ _ c.in-Register.is c.requires.0 c.requires.1

pub bounds-registers-at : goal.bounds-registers-at
bounds-registers-at c =
    rw c.at.ensures (register_at-below _ _ _ _ c.in-Register.is c.requires.0 c.requires.1)

pub offset_bounds-registers-at : goal.offset_bounds-registers-at
offset_bounds-registers-at c =
    let below : c.at.result < 128 =
    rw c.at.ensures (register_at-below _ _ _ _ c.in-Register.is c.requires.0 c.requires.1) in
    search (rules, below)
