use Rattle.std.proofs.Common.{◌+◌, ◌-◌}
use Rattle.memory.specs.Read.{Read}
use Rattle.memory.proofs.read.read.Given as goal

abbrev pub invariant-loop-i : goal.invariant-loop-i
invariant-loop-i l = Read l.bytes (l.at + l.i) (l.count - l.i) l.value
