-- What each operation of RV64I and RV64M gives for the operands a and b.
use Rattle.std.specs.Prelude.{ℕ, ◌+◌, ◌-◌, ◌*◌, ◌/◌, ◌%◌, ◌^◌, bit_and, bit_or, bit_xor, nat_lt}
use Rattle.std.specs.Int.{w32, w64}
use mir.Val.{bool_byte}
use Rattle.scalar.specs.Signed.{low_word, signed_less, arithmetic_shift, sign_extended}
use Rattle.scalar.specs.declared.signedness.Signedness.TheVariants.{Signed, Unsigned}
use Rattle.scalar.specs.declared.width.Width.TheVariants.{Word}
use Rattle.scalar.specs.declared.operator.Operator.{Operator}
use Rattle.scalar.specs.declared.operator.Operator.TheVariants.{Add, Sub, Sll, Slt, Sltu, Xor, Srl, Sra, Or, And}
use Rattle.scalar.specs.declared.operator.Operator.TheVariants.{Addw, Subw, Sllw, Srlw, Sraw}
use Rattle.scalar.specs.declared.operator.Operator.TheVariants.{Mul, Mulh, Mulhsu, Mulhu, Div, Divu, Rem, Remu}
use Rattle.scalar.specs.declared.operator.Operator.TheVariants.{Mulw, Divw, Divuw, Remw, Remuw}
use Rattle.products.specs.Product.{low_half, high_half}
use Rattle.division.specs.Division.{quotient, remainder}

-- A shift is by the low 6 bits of b, in a W form by the low 5. A W form works on the low words and sign-extends the low
-- word of its result.
unfoldable pub computed : Operator → ℕ → ℕ → ℕ
computed Add a b = (a + b) % 2 ^ 64
computed Sub a b = (a + (2 ^ 64 - b)) % 2 ^ 64
computed Sll a b = a * 2 ^ (b % 64) % 2 ^ 64
computed Slt a b = bool_byte (signed_less a b)
computed Sltu a b = bool_byte (nat_lt a b)
computed Xor a b = bit_xor a b
computed Srl a b = a / 2 ^ (b % 64)
computed Sra a b = arithmetic_shift w64 a (b % 64)
computed Or a b = bit_or a b
computed And a b = bit_and a b
computed Addw a b = sign_extended Word (low_word a + low_word b)
computed Subw a b = sign_extended Word (low_word a + (2 ^ 32 - low_word b))
computed Sllw a b = sign_extended Word (low_word a * 2 ^ (b % 32))
computed Srlw a b = sign_extended Word (low_word a / 2 ^ (b % 32))
computed Sraw a b = sign_extended Word (arithmetic_shift w32 (low_word a) (b % 32))
computed Mul a b = low_half a b
computed Mulh a b = high_half Signed Signed a b
computed Mulhsu a b = high_half Signed Unsigned a b
computed Mulhu a b = high_half Unsigned Unsigned a b
computed Div a b = quotient Signed w64 a b
computed Divu a b = quotient Unsigned w64 a b
computed Rem a b = remainder Signed w64 a b
computed Remu a b = remainder Unsigned w64 a b
computed Mulw a b = sign_extended Word (low_word a * low_word b)
computed Divw a b = sign_extended Word (quotient Signed w32 (low_word a) (low_word b))
computed Divuw a b = sign_extended Word (quotient Unsigned w32 (low_word a) (low_word b))
computed Remw a b = sign_extended Word (remainder Signed w32 (low_word a) (low_word b))
computed Remuw a b = sign_extended Word (remainder Unsigned w32 (low_word a) (low_word b))
