-- Cases of one law.
use Rattle.scalar.specs.declared.signedness.Signedness.TheVariants.{Signed, Unsigned}
use Rattle.products.proofs.Halves.{both_halves}
use Rattle.compute.specs.Compute.{computed}
use Rattle.compute.specs.Products.{WholeProducts}

pub whole_products : WholeProducts
unfolding computed
whole_products =
    record {
      mulh = both_halves Signed Signed;
      mulhsu = both_halves Signed Unsigned;
      mulhu = both_halves Unsigned Unsigned;
    }
