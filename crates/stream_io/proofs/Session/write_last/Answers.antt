use Rattle.stream_feed.proofs.Texts.{wrote_within}
use Rattle.stream_io.proofs.Onward.{wrote_last, part_length, part_next, part_sent}
use Rattle.stream_io.proofs.Session.write_last.Goals as goal

pub slice_bounds-write_next-end : goal.slice_bounds-write_next-end
slice_bounds-write_next-end g c = wrote_within (wrote_last _ _ c.in-Ok.ensures)

pub slice_bounds-write_next-end-2 : goal.slice_bounds-write_next-end-2
slice_bounds-write_next-end-2 g c = part_length (wrote_last _ _ c.in-Ok.ensures)

pub write_next-requires : goal.write_next-requires
write_next-requires g c = part_next (wrote_last _ _ c.in-Ok.ensures) c.requires

pub returns : goal.returns
returns g c = part_sent (wrote_last _ _ c.in-Ok.ensures) c.write_next.ensures
