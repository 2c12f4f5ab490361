-- Division of numbers of w bits, by the manual. The most negative number over -1 needs no clause: over the integers the
-- quotient is 2 ^ (w - 1), which has the bits of the dividend, and the remainder is 0.
use Rattle.std.specs.Prelude.{ℕ, ◌-◌, ◌^◌, cond, ◌==◌, int_div, int_rem}
use Rattle.std.specs.Int.{Width, w32}
use mir.Val.{of_z, bits}
use Rattle.scalar.specs.Signed.{interpreted, low_word, sign_extended}
use Rattle.scalar.specs.declared.signedness.Signedness.{Signedness}
use Rattle.scalar.specs.declared.width.Width.TheVariants.{Word}
use Rattle.division.specs.declared.Division.{Division}

-- rounded towards zero; by zero, all bits set
unfoldable pub quotient : Signedness → Width → ℕ → ℕ → ℕ
quotient s w a b = cond (b == 0) (2 ^ bits w - 1) (of_z w (int_div (interpreted s w a) (interpreted s w b)))

-- with the dividend's sign; by zero, the dividend
unfoldable pub remainder : Signedness → Width → ℕ → ℕ → ℕ
remainder s w a b = cond (b == 0) a (of_z w (int_rem (interpreted s w a) (interpreted s w b)))

abbrev pub divided : Signedness → Width → ℕ → ℕ → Division
divided s w a b = record { quotient = quotient s w a b; remainder = remainder s w a b }

-- of the low words, with the low words of the results sign-extended
abbrev pub words_divided : Signedness → ℕ → ℕ → Division
words_divided s a b =
    record {
      quotient = sign_extended Word (quotient s w32 (low_word a) (low_word b));
      remainder = sign_extended Word (remainder s w32 (low_word a) (low_word b));
    }
