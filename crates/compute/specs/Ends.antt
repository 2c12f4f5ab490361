-- The definitions read at both ends of the signed and unsigned ranges.
use Rattle.std.specs.Prelude.{◌≡◌, ◌+◌, ◌-◌, ◌^◌, true, false}
use Rattle.scalar.specs.Signed.{signed_less, sign_extended}
use Rattle.compute.specs.Compute.{computed}
use Rattle.scalar.specs.declared.width.Width.TheVariants.{Byte, Half, Word, Double}
use Rattle.scalar.specs.declared.operator.Operator.TheVariants.{Sub, Sra, Addw, Subw, Sllw, Srlw, Sraw}
use Rattle.scalar.specs.declared.operator.Operator.TheVariants.{Mul, Mulh, Mulhsu, Mulhu, Div, Divu, Rem, Remu}
use Rattle.scalar.specs.declared.operator.Operator.TheVariants.{Mulw, Divw, Divuw, Remw, Remuw}

pub record Ends : Type 0 where
  pub least_is_less : signed_less (2 ^ 63) (2 ^ 63 - 1) ≡ true
  pub most_is_not : signed_less (2 ^ 63 - 1) (2 ^ 63) ≡ false
  pub most_of_byte : sign_extended Byte (2 ^ 8 + 2 ^ 7 - 1) ≡ 2 ^ 7 - 1
  pub least_of_byte : sign_extended Byte (2 ^ 7) ≡ 2 ^ 64 - 2 ^ 7
  pub least_of_half : sign_extended Half (2 ^ 15) ≡ 2 ^ 64 - 2 ^ 15
  pub least_of_word : sign_extended Word (2 ^ 31) ≡ 2 ^ 64 - 2 ^ 31
  pub least_of_double : sign_extended Double (2 ^ 63) ≡ 2 ^ 63
  pub sub : computed Sub 0 1 ≡ 2 ^ 64 - 1
  pub sra : computed Sra (2 ^ 63) (64 + 63) ≡ 2 ^ 64 - 1
  pub addw : computed Addw (2 ^ 31 - 1) 1 ≡ 2 ^ 64 - 2 ^ 31
  pub subw : computed Subw (2 ^ 32) 1 ≡ 2 ^ 64 - 1
  pub sllw : computed Sllw 1 (32 + 31) ≡ 2 ^ 64 - 2 ^ 31
  pub srlw : computed Srlw (2 ^ 64 - 1) 32 ≡ 2 ^ 64 - 1
  pub sraw : computed Sraw (2 ^ 31) (32 + 31) ≡ 2 ^ 64 - 1
  -- -1 by -1, and the largest unsigned number by itself
  pub mul : computed Mul (2 ^ 64 - 1) (2 ^ 64 - 1) ≡ 1
  pub mulh : computed Mulh (2 ^ 64 - 1) (2 ^ 64 - 1) ≡ 0
  pub mulhsu : computed Mulhsu (2 ^ 64 - 1) (2 ^ 64 - 1) ≡ 2 ^ 64 - 1
  pub mulhu : computed Mulhu (2 ^ 64 - 1) (2 ^ 64 - 1) ≡ 2 ^ 64 - 2
  -- the most negative number by itself and by -1
  pub mul_least : computed Mul (2 ^ 63) (2 ^ 63) ≡ 0
  pub mulh_least : computed Mulh (2 ^ 63) (2 ^ 63) ≡ 2 ^ 62
  pub mulhsu_least : computed Mulhsu (2 ^ 63) (2 ^ 63) ≡ 2 ^ 64 - 2 ^ 62
  pub mul_least_negated : computed Mul (2 ^ 63) (2 ^ 64 - 1) ≡ 2 ^ 63
  pub mulh_least_negated : computed Mulh (2 ^ 63) (2 ^ 64 - 1) ≡ 0
  pub mulw : computed Mulw (2 ^ 31) (2 ^ 64 - 1) ≡ 2 ^ 64 - 2 ^ 31
  -- towards zero, and the remainder with the dividend's sign
  pub div : computed Div (2 ^ 64 - 7) 2 ≡ 2 ^ 64 - 3
  pub rem : computed Rem (2 ^ 64 - 7) 2 ≡ 2 ^ 64 - 1
  pub div_by_negative : computed Div 7 (2 ^ 64 - 2) ≡ 2 ^ 64 - 3
  pub rem_by_negative : computed Rem 7 (2 ^ 64 - 2) ≡ 1
  pub divu : computed Divu (2 ^ 64 - 1) 2 ≡ 2 ^ 63 - 1
  pub remu : computed Remu (2 ^ 63) (2 ^ 64 - 1) ≡ 2 ^ 63
  -- by zero, also by a word of zeros
  pub div_by_zero : computed Div 7 0 ≡ 2 ^ 64 - 1
  pub rem_by_zero : computed Rem (2 ^ 63) 0 ≡ 2 ^ 63
  pub divu_by_zero : computed Divu 7 0 ≡ 2 ^ 64 - 1
  pub remu_by_zero : computed Remu (2 ^ 64 - 1) 0 ≡ 2 ^ 64 - 1
  pub divw_by_zero : computed Divw 7 (2 ^ 32) ≡ 2 ^ 64 - 1
  pub remw_by_zero : computed Remw (2 ^ 31) (2 ^ 32) ≡ 2 ^ 64 - 2 ^ 31
  pub divuw_by_zero : computed Divuw 7 (2 ^ 32) ≡ 2 ^ 64 - 1
  pub remuw_by_zero : computed Remuw (2 ^ 31) (2 ^ 32) ≡ 2 ^ 64 - 2 ^ 31
  -- the most negative number over -1
  pub div_least : computed Div (2 ^ 63) (2 ^ 64 - 1) ≡ 2 ^ 63
  pub rem_least : computed Rem (2 ^ 63) (2 ^ 64 - 1) ≡ 0
  pub divw_least : computed Divw (2 ^ 31) (2 ^ 64 - 1) ≡ 2 ^ 64 - 2 ^ 31
  pub remw_least : computed Remw (2 ^ 31) (2 ^ 64 - 1) ≡ 0
  -- unsigned words, sign-extended
  pub divuw : computed Divuw (2 ^ 64 - 1) 1 ≡ 2 ^ 64 - 1
  pub remuw : computed Remuw (2 ^ 31) (2 ^ 64 - 1) ≡ 2 ^ 64 - 2 ^ 31
