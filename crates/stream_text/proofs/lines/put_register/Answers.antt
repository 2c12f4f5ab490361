use Rattle.std.proofs.Common.{arith}
use Rattle.stream_text.specs.Lines.{register_line}
use Rattle.stream_text.proofs.Digits.{most_digits}
use Rattle.stream_text.proofs.Puts.{put_join, put_length, pair_end}
use Rattle.stream_text.proofs.lines.put_register.Goals as goal

pub put_pair-requires : goal.put_pair-requires
put_pair-requires c =
    let size = put_length c.put_bytes-number.ensures in
    omega (arith, most_digits 2 c.args.index (omega arith), most_digits 19 c.args.value (omega arith))

pub returns : goal.returns
unfolding register_line
returns c =
    let end = pair_end 2 19 c.args.index c.args.value 32 10 (omega arith) (omega arith) c.put_pair.ensures in
    (put_join c.put_bytes-number.ensures c.put_pair.ensures, omega arith)
