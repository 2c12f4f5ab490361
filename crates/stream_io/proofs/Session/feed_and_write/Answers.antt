use Rattle.stream_feed.proofs.Texts.{wrote_within, fed_wrote, fed_stream}
use Rattle.stream_io.proofs.Onward.{part_length, part_next, part_sent, next_text}
use Rattle.stream_io.proofs.Session.feed_and_write.Goals as goal

pub slice_bounds-write_next-end : goal.slice_bounds-write_next-end
slice_bounds-write_next-end g c = wrote_within (fed_wrote _ _ _ _ _ _ _ _ c.in-Ok.ensures).1

pub slice_bounds-write_next-end-2 : goal.slice_bounds-write_next-end-2
slice_bounds-write_next-end-2 g c = part_length (fed_wrote _ _ _ _ _ _ _ _ c.in-Ok.ensures).1

pub write_next-requires : goal.write_next-requires
write_next-requires g c =
    part_next (fed_wrote _ _ _ _ _ _ _ _ c.in-Ok.ensures).1 (next_text _ _ c.requires c.args.piece.now)

pub returns : goal.returns
returns g c =
    let sent = part_sent (fed_wrote _ _ _ _ _ _ _ _ c.in-Ok.ensures).1 c.write_next.ensures in
    record { stream = fed_stream _ _ _ _ _ _ _ _ c.in-Ok.ensures; count = sent.count _ c.in_ok-written.was }
