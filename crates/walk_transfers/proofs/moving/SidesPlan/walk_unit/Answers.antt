use Rattle.walk_transfers.specs.Moving.{move_unit}
use Rattle.walk_transfers.proofs.Walks.{unit_standing}
use Rattle.walk_transfers.proofs.moving.SidesPlan.walk_unit.Goals as goal

pub returns-clause-stands : goal.returns-clause-stands
unfolding move_unit
returns-clause-stands c paused =
    (unit_standing _ _ _ _ _ c.requires.0 (c.move_unit.ensures c.args.memory.now), c.requires.1, c.requires.2)
