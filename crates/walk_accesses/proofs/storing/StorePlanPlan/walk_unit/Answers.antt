use Rattle.walk_transfers.proofs.Walks.{unit_standing}
use Rattle.walk_accesses.specs.Storing.{store_unit}
use Rattle.walk_accesses.proofs.storing.StorePlanPlan.walk_unit.Goals as goal

pub returns-clause-stands : goal.returns-clause-stands
unfolding store_unit
returns-clause-stands c paused = (unit_standing _ _ _ _ _ c.requires.0 c.unit.ensures, c.requires.1)
