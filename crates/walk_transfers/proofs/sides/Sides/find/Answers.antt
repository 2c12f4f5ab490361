use mathlib.Core.Path.{◌∙◌}
use Rattle.walk_transfers.proofs.Standing.{stands_pair}
use Rattle.walk_transfers.proofs.sides.Sides.find.Goals as goal

pub returns : goal.returns
returns c = c.find_pair.ensures ∙ stands_pair _ _ c.requires.2
