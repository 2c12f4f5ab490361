use Rattle.std.proofs.Common.{◌+◌, ◌-◌, length}
use Rattle.stream_feed.proofs.Feeding.{FedSoFar}
use Rattle.stream_feed.proofs.feed.feed_accepted.Given as goal

abbrev pub invariant-loop-record : goal.invariant-loop-record
invariant-loop-record l =
    FedSoFar l.piece l.initial.memory l.initial.out l.initial.reader l.initial.machine l.memory l.out l.reader l.machine
    l.i l.written

abbrev pub decreases-loop-record : goal.decreases-loop-record
decreases-loop-record l = l.initial.reader.offset + l.initial.reader.length + length l.piece - l.reader.offset
