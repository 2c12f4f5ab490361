use Rattle.std.proofs.Common.{arith}
use borrow.Author.Tests.{le-leb}
use Rattle.stream_feed.specs.Feed.{finished_into}
use Rattle.stream_text.proofs.Puts.{put_join}
use Rattle.stream_feed.proofs.Feeding.{finish_written}
use Rattle.stream_feed.proofs.finish.finish.Goals as goal

pub returns : goal.returns
unfolding finished_into
returns c =
    let bad = c.put_bad-at.ensures in
    let registers = c.put_registers.ensures in
    rw (le-leb _ _ c.if-out-lt-LAST_ROOM.false)
    (finish_written (put_join bad.0 registers.0) (omega (arith, bad.1, registers.1)))
