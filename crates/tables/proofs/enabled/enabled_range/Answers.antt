use native.Mathlib.Omega.{arith}
use Rattle.tables.proofs.Ranges.{range_none, range_some}
use Rattle.tables.proofs.enabled.enabled_range.Goals as goal

pub returns-then-cfg-eq31 : goal.returns-then-cfg-eq31
returns-then-cfg-eq31 c = range_none _ c.if-cfg-eq31.true

pub returns : goal.returns
returns c = range_some _ _ c.if-cfg-eq31.false (omega (arith, c.min.ensures))
