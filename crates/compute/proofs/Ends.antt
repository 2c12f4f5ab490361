-- The readings at both ends of the ranges, by computation.
use Rattle.std.proofs.Common.{refl}
use Rattle.scalar.specs.Signed.{signed_less, arithmetic_shift, sign_extended}
use Rattle.products.specs.Product.{low_half, high_half}
use Rattle.division.specs.Division.{quotient, remainder}
use Rattle.compute.specs.Compute.{computed}
use Rattle.compute.specs.Ends.{Ends}

pub ends : Ends
unfolding signed_less arithmetic_shift sign_extended low_half high_half quotient remainder computed
ends =
    record {
      least_is_less = refl;
      most_is_not = refl;
      most_of_byte = refl;
      least_of_byte = refl;
      least_of_half = refl;
      least_of_word = refl;
      least_of_double = refl;
      sub = refl;
      sra = refl;
      addw = refl;
      subw = refl;
      sllw = refl;
      srlw = refl;
      sraw = refl;
      mul = refl;
      mulh = refl;
      mulhsu = refl;
      mulhu = refl;
      mul_least = refl;
      mulh_least = refl;
      mulhsu_least = refl;
      mul_least_negated = refl;
      mulh_least_negated = refl;
      mulw = refl;
      div = refl;
      rem = refl;
      div_by_negative = refl;
      rem_by_negative = refl;
      divu = refl;
      remu = refl;
      div_by_zero = refl;
      rem_by_zero = refl;
      divu_by_zero = refl;
      remu_by_zero = refl;
      divw_by_zero = refl;
      remw_by_zero = refl;
      divuw_by_zero = refl;
      remuw_by_zero = refl;
      div_least = refl;
      rem_least = refl;
      divw_least = refl;
      remw_least = refl;
      divuw = refl;
      remuw = refl;
    }
