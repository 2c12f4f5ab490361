use Rattle.std.proofs.Common.{rules, ◌<◌}
use Rattle.walk_operands.proofs.Fits.{fits_at}
use Rattle.walk_operations.proofs.operation.OperationPlan.element.Goals as goal

pub at-requires : goal.at-requires
at-requires c = fits_at _ _ _ c.requires.1 c.requires.0.first

pub bounds-registers-at : goal.bounds-registers-at
bounds-registers-at c = rw c.at.ensures (fits_at _ _ _ c.requires.1 c.requires.0.first)

pub offset_bounds-registers-at : goal.offset_bounds-registers-at
offset_bounds-registers-at c =
    let below : c.at.result < 128 = rw c.at.ensures (fits_at _ _ _ c.requires.1 c.requires.0.first) in
    search (rules, below)
