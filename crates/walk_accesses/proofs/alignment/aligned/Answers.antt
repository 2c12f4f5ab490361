use native.Mathlib.Nat.{mod-one}
use Rattle.walk_accesses.specs.Alignment.{aligned}
use Rattle.walk_accesses.proofs.alignment.aligned.Goals as goal

pub returns-in-Byte : goal.returns-in-Byte
unfolding aligned
returns-in-Byte c = rw (c.in-Byte.is, mod-one c.args.address)

pub returns-in-Half : goal.returns-in-Half
unfolding aligned
returns-in-Half c = rw c.in-Half.is

pub returns-in-Word : goal.returns-in-Word
unfolding aligned
returns-in-Word c = rw c.in-Word.is

pub returns-in-Double : goal.returns-in-Double
unfolding aligned
returns-in-Double c = rw c.in-Double.is
