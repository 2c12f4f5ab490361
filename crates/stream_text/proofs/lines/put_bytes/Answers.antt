use Rattle.std.proofs.Common.{arith}
use Rattle.stream_text.proofs.Puts.{put_part}
use Rattle.stream_text.proofs.lines.put_bytes.Goals as goal

pub returns : goal.returns
returns c = put_part c.requires (omega arith) c.copy_from_slice.ensures.after
