use Rattle.walk_transfers.proofs.Walks.{start_standing}
use Rattle.walk_accesses.proofs.Elements.{store_started}
use Rattle.walk_accesses.proofs.storing.StorePlanPlan.start.Goals as goal

pub returns-clause-stands : goal.returns-clause-stands
returns-clause-stands c = (start_standing c.requires.0 c.started.ensures, c.requires.1)

pub returns-clause-same : goal.returns-clause-same
returns-clause-same c = store_started _ _ c.started.ensures
