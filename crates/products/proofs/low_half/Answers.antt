-- The searches find that the products fit.
use Rattle.products.specs.Product.{low_half}
use Rattle.products.proofs.Digits.{low_by_halves}
use Rattle.products.proofs.low_half.Goals as goal

pub returns : goal.returns
unfolding low_half
returns c =
    rw (c.partial-3.ensures.0, c.partial-2.ensures.0, c.partial.ensures.0) (low_by_halves c.args.a c.args.b)
