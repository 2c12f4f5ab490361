use Rattle.bits.proofs.Booleans.{fails, holds}
use Rattle.decode.proofs.uncompressed.address_predicate.Goals as goal

pub returns-then-not-is_access : goal.returns-then-not-is_access
returns-then-not-is_access c = rw (fails c.is_access.ensures c.if-not-is_access.true)

pub returns : goal.returns
returns c = rw (holds c.is_access.ensures c.if-not-is_access.false, c.predicate_by.ensures)
