use Rattle.walk_transfers.proofs.Walks.{start_standing}
use Rattle.walk_accesses.proofs.Elements.{load_started}
use Rattle.walk_accesses.proofs.loading.LoadPlanPlan.start.Goals as goal

pub returns-clause-stands : goal.returns-clause-stands
returns-clause-stands c = (start_standing c.requires.0 c.started.ensures, c.requires.1)

pub returns-clause-same : goal.returns-clause-same
returns-clause-same c = load_started _ _ c.started.ensures
