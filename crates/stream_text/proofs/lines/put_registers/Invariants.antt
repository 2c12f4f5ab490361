use Rattle.std.proofs.Common.{◌+◌, ◌*◌, ◌≤◌}
use Rattle.stream_text.specs.Lines.{lines_below}
use Rattle.stream_text.specs.Put.{Put}
use Rattle.stream_text.proofs.lines.put_registers.Given as goal

abbrev pub invariant-loop-i : goal.invariant-loop-i
invariant-loop-i l = record {
  room : l.next ≤ l.at + 26 * l.i;
  put : Put l.initial.out l.at (lines_below l.registers l.i) l.out l.next;
}
