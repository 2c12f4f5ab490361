-- The manual's widths of an access.
use Rattle.std.specs.Prelude.{ℕ, ◌*◌}
use Rattle.scalar.specs.declared.width.Width.{Width}
use Rattle.scalar.specs.declared.width.Width.TheVariants.{Byte, Half, Word, Double}

-- the bytes of an access
abbrev pub bytes_of : Width → ℕ
bytes_of Byte = 1
bytes_of Half = 2
bytes_of Word = 4
bytes_of Double = 8

abbrev pub bits_of : Width → ℕ
bits_of w = 8 * bytes_of w
