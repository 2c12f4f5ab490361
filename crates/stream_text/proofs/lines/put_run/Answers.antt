use Rattle.std.proofs.Common.{arith, append_assoc}
use Rattle.stream_text.specs.Lines.{run_line}
use Rattle.stream_text.proofs.Digits.{most_digits}
use Rattle.stream_text.proofs.Puts.{put_join, put_length, pair_end}
use Rattle.stream_text.proofs.lines.put_run.Goals as goal

pub put_pair-offsets-requires : goal.put_pair-offsets-requires
put_pair-offsets-requires c =
    omega (arith, most_digits 9 c.args.answer (omega arith), most_digits 19 c.args.pc (omega arith))

pub put_pair-requires : goal.put_pair-requires
put_pair-requires c =
    let first = pair_end 9 19 c.args.answer c.args.pc 32 32 (omega arith) (omega arith) c.put_pair-offsets.ensures in
    let size = put_length c.put_pair-offsets.ensures in
    omega (arith, most_digits 9 c.args.source (omega arith), most_digits 9 c.args.destination (omega arith))

pub returns : goal.returns
unfolding run_line
returns c =
    let first = pair_end 9 19 c.args.answer c.args.pc 32 32 (omega arith) (omega arith) c.put_pair-offsets.ensures in
    let last = pair_end 9 9 c.args.source c.args.destination 32 10 (omega arith) (omega arith) c.put_pair.ensures in
    (rw append_assoc (put_join c.put_pair-offsets.ensures c.put_pair.ensures), omega arith)
