use Rattle.std.proofs.Common.{◌≡◌, ◌+◌, ◌-◌, ◌≤◌, length}
use Rattle.stream_records.proofs.Readers.{first}
use Rattle.stream_records.proofs.reader.Reader.find.Given as goal

abbrev pub invariant-loop-i : goal.invariant-loop-i
invariant-loop-i l = record {
  same : first l.self l.piece l.i ≡ first l.initial.self l.piece l.from;
  sized : length l.self.kept ≡ 11;
  short : l.self.length ≤ 10;
  reached :
      l.self.offset + l.self.length + (length l.piece - l.i)
      ≤ l.initial.self.offset + l.initial.self.length + (length l.piece - l.from);
}
