use Rattle.std.proofs.Common.{arith, ◌∙◌}
use Rattle.test_vector_lines.proofs.Digits.{same_digits, bounded}
use Rattle.test_vector_lines.proofs.hex.hex_number.Goals as goal

pub returns-clause-value : goal.returns-clause-value
returns-clause-value c = c.number_in.ensures ∙ same_digits c.args.digits.now 0 0 (omega arith) (omega arith)

pub returns-clause-below : goal.returns-clause-below
returns-clause-below c =
    rw (c.number_in.ensures, same_digits c.args.digits.now 0 0 (omega arith) (omega arith))
    (bounded c.args.digits.now 0 0 _ (omega arith) (omega arith))
