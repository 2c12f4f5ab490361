use Rattle.walk_transfers.proofs.Walks.{start_standing, move_started}
use Rattle.walk_transfers.proofs.moving.SidesPlan.start.Goals as goal

pub returns-clause-stands : goal.returns-clause-stands
returns-clause-stands c = (start_standing c.requires.0 c.started.ensures, c.requires.1, c.requires.2)

pub returns-clause-same : goal.returns-clause-same
returns-clause-same c = move_started _ _ c.started.ensures
