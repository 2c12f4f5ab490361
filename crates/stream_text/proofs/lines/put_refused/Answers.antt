use Rattle.std.proofs.Common.{arith}
use Rattle.stream_text.specs.Lines.{refused_word, refused_line}
use Rattle.stream_text.proofs.Digits.{most_digits}
use Rattle.stream_text.proofs.Puts.{labelled_end}
use Rattle.stream_text.proofs.lines.put_refused.Goals as goal

pub put_labelled-requires : goal.put_labelled-requires
put_labelled-requires c = omega (arith, most_digits 9 c.args.answer (omega arith))

pub returns : goal.returns
unfolding refused_line
returns c =
    let end = labelled_end 9 c.args.answer 10 refused_word (omega arith) c.put_labelled.ensures in
    (c.put_labelled.ensures, omega arith)
