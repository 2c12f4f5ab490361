use Rattle.std.proofs.Common.{◌∙◌, arith, refl}
use Rattle.test_vector_lines.proofs.Spaces.{spaced}
use Rattle.test_vector_lines.proofs.line.line_of.Goals as goal

pub returns-in_err-rs2 : goal.returns-in_err-rs2
returns-in_err-rs2 c =
    let read =
    spaced c.args.line.now _ _ _ _ (omega arith) c.if-not-spaced.false c.hex_number.ensures.value
    c.hex_number-2.ensures.value c.hex_number-3.ensures.value refl in
    c.from_residual-in_err-rs2.ensures ∙ rw (c.in_ok-word.was, c.in_ok-rs1.was, c.in_err-rs2.was) at read

pub returns-in_err-result : goal.returns-in_err-result
returns-in_err-result c =
    let read =
    spaced c.args.line.now _ _ _ _ (omega arith) c.if-not-spaced.false c.hex_number.ensures.value
    c.hex_number-2.ensures.value c.hex_number-3.ensures.value c.hex_number-4.ensures.value in
    c.from_residual-in_err-result.ensures
    ∙ rw (c.in_ok-word.was, c.in_ok-rs1.was, c.in_ok-rs2.was, c.in_err-result.was) at read

pub returns : goal.returns
returns c =
    let read =
    spaced c.args.line.now _ _ _ _ (omega arith) c.if-not-spaced.false c.hex_number.ensures.value
    c.hex_number-2.ensures.value c.hex_number-3.ensures.value c.hex_number-4.ensures.value in
    rw (c.in_ok-word.was, c.in_ok-rs1.was, c.in_ok-rs2.was, c.in_ok-result.was) at read
