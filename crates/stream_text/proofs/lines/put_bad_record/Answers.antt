use Rattle.std.proofs.Common.{arith}
use Rattle.stream_text.specs.Lines.{bad_record_words, bad_record_line}
use Rattle.stream_text.proofs.Digits.{most_digits}
use Rattle.stream_text.proofs.Puts.{labelled_end}
use Rattle.stream_text.proofs.lines.put_bad_record.Goals as goal

pub put_labelled-requires : goal.put_labelled-requires
put_labelled-requires c = omega (arith, most_digits 19 c.args.offset (omega arith))

pub returns : goal.returns
unfolding bad_record_line
returns c =
    let end = labelled_end 19 c.args.offset 10 bad_record_words (omega arith) c.put_labelled.ensures in
    (c.put_labelled.ensures, omega arith)
