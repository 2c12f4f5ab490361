use Rattle.std.proofs.Common.{◌≡◌, ◌+◌, ◌-◌}
use Rattle.memory.specs.LittleEndian.{written}
use Rattle.memory.proofs.write.write.Given as goal

abbrev pub invariant-loop-i : goal.invariant-loop-i
invariant-loop-i l =
    written l.memory (l.at + l.i) (l.count - l.i) l.rest ≡ written l.fn.memory l.at l.count l.value
