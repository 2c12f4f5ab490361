use Rattle.std.proofs.Common.{arith, sym, ◌∙◌}
use Rattle.test_vector_lines.proofs.Digits.{one_digit, no_more}
use Rattle.test_vector_lines.proofs.number.number_in.Goals as goal

pub returns-in_err-digit : goal.returns-in_err-digit
returns-in_err-digit c =
    let digits = c.args.digits.now in
    let next =
    one_digit c.args.base digits c.loop-byte.number c.loop-byte.byte-index _ (omega arith) c.digit_of.ensures.value in
    c.from_residual.ensures ∙ sym (c.loop-byte.invariant ∙ rw c.in_err-digit.was at next)

pub returns-then-not-follows : goal.returns-then-not-follows
returns-then-not-follows c =
    let digits = c.args.digits.now in
    let next =
    one_digit c.args.base digits c.loop-byte.number c.loop-byte.byte-index _ (omega arith) c.digit_of.ensures.value in
    sym (c.loop-byte.invariant ∙ rw (c.in_ok-digit.was, c.if-not-follows.true) at next)

pub loop-byte-preserved : goal.loop-byte-preserved
loop-byte-preserved c =
    let digits = c.args.digits.now in
    let next =
    one_digit c.args.base digits c.loop-byte.number c.loop-byte.byte-index _ (omega arith) c.digit_of.ensures.value in
    c.loop-byte.invariant ∙ rw (c.in_ok-digit.was, c.if-not-follows.false) at next

pub returns : goal.returns
returns c = sym (c.loop-byte.invariant ∙ no_more c.args.base c.args.digits.now _ c.loop-byte.byte-index (omega arith))
