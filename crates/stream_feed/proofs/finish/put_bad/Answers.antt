use Rattle.std.proofs.Common.{arith, rules}
use Rattle.stream_text.proofs.Puts.{put_none}
use Rattle.stream_feed.proofs.Accepting.{bad, not_bad}
use Rattle.stream_feed.proofs.finish.put_bad.Goals as goal

pub returns-then-reader : goal.returns-then-reader
returns-then-reader c = rw (← bad c.args.reader (search rules) c.if-reader.true) c.put_bad_record.ensures

pub returns : goal.returns
returns c = rw (← not_bad c.args.reader (search rules) c.if-reader.false) (put_none _ _, omega arith)
