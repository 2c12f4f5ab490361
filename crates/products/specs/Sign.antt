-- The sign of a factor.
use Rattle.std.specs.Prelude.{ℕ, ◌/◌, ◌^◌}
use Rattle.scalar.specs.declared.signedness.Signedness.{Signedness}
use Rattle.scalar.specs.declared.signedness.Signedness.TheVariants.{Signed, Unsigned}

-- 1 for a negative factor of 64 bits, else 0: its uppermost bit, if it is interpreted as signed
unfoldable pub sign_bit : Signedness → ℕ → ℕ
sign_bit Signed a = a / 2 ^ 63
sign_bit Unsigned a = 0
