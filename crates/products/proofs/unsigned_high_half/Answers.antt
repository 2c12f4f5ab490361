-- The searches find that the first sums fit. The last is the high half.
use Rattle.products.proofs.Digits.{high_by_halves, high_fits}
use Rattle.products.proofs.unsigned_high_half.Goals as goal

pub returns : goal.returns
returns c = cc (high_by_halves c.args.a c.args.b)

pub overflow_add-result-2 : goal.overflow_add-result-2
overflow_add-result-2 c = rw (returns c) (high_fits c.ranges.a c.ranges.b)
