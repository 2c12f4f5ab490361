use Rattle.stream_text.proofs.Puts.{put_byte}
use Rattle.stream_text.proofs.lines.put_number.Goals as goal

pub returns : goal.returns
returns c = put_byte _ c.put_decimal-end.ensures
