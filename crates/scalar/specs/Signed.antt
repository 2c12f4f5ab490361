-- The manual's signed numbers in registers, by the logic's two's complement: `to_z w` is the number that w bits stand
-- for, `of_z w` the bits of a number.
use Rattle.std.specs.Prelude.{Bool, ℕ, ◌%◌, ◌^◌, ℤ, pos}
use Rattle.std.specs.Int.Signed.{lt_z, shr_z}
use mir.Syntax as machine
use Rattle.std.specs.Int.{w8, w16, w32, w64}
use Rattle.std.proofs.Common.{to_z, of_z}
use Rattle.scalar.specs.Width.{bits_of}
use Rattle.scalar.specs.declared.signedness.Signedness.{Signedness}
use Rattle.scalar.specs.declared.signedness.Signedness.TheVariants.{Signed, Unsigned}
use Rattle.scalar.specs.declared.width.Width.{Width}
use Rattle.scalar.specs.declared.width.Width.TheVariants.{Byte, Half, Word, Double}

-- the number that w bits stand for
abbrev pub interpreted : Signedness → machine.Width → ℕ → ℤ
interpreted Signed w a = to_z w a
interpreted Unsigned w a = pos a

abbrev pub low_word : ℕ → ℕ
low_word a = a % 2 ^ 32

-- the integer type that an access fills
abbrev pub integer_of : Width → machine.Width
integer_of Byte = w8
integer_of Half = w16
integer_of Word = w32
integer_of Double = w64

unfoldable pub signed_less : ℕ → ℕ → Bool
signed_less a b = lt_z (to_z w64 a) (to_z w64 b)

-- to the right by n places, rounded down, so that the sign bit is copied
unfoldable pub arithmetic_shift : machine.Width → ℕ → ℕ → ℕ
arithmetic_shift w a n = of_z w (shr_z (to_z w a) (2 ^ n))

-- the low bits of a value, as many as an access has, read as signed and given back as 64 bits
unfoldable pub sign_extended : Width → ℕ → ℕ
sign_extended width value = of_z w64 (to_z (integer_of width) (value % 2 ^ bits_of width))
