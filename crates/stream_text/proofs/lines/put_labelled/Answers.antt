use Rattle.stream_text.proofs.Puts.{put_join}
use Rattle.stream_text.proofs.lines.put_labelled.Goals as goal

pub returns : goal.returns
returns c = put_join c.put_bytes-number.ensures c.put_number.ensures
