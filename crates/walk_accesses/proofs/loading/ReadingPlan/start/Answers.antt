use Rattle.walk_operations.proofs.Reading.{same_reading}
use Rattle.walk_transfers.proofs.Walks.{start_standing}
use Rattle.walk_accesses.proofs.Elements.{load_started}
use Rattle.walk_accesses.proofs.Kept.{load_unit_keeps_memory}
use Rattle.walk_accesses.proofs.loading.ReadingPlan.start.Goals as goal

pub returns-clause-stands : goal.returns-clause-stands
returns-clause-stands c = (start_standing c.requires.0 c.started.ensures, c.requires.1)

pub returns-clause-same : goal.returns-clause-same
returns-clause-same c = same_reading _ _ (load_unit_keeps_memory _ _) _ _ (load_started _ _ c.started.ensures)
