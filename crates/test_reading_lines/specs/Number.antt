-- A word as a number: decimal, or hex after 0x.
use Rattle.std.specs.Prelude.{ℕ, Bool, cond, ◌&&◌, List, leb, eqb, length, get_or, drop, Option, None, Some}
use Rattle.test_vector_lines.specs.Number.{number_in}
use Rattle.test_reading_lines.specs.Words.{missing}

-- 0x, and something after it
abbrev pub is_hex : List ℕ → Bool
is_hex word = leb 3 (length word) && (eqb (get_or word 0 0) 48 && eqb (get_or word 1 0) 120)

unfoldable pub number_of : List ℕ → Option ℕ
number_of word = cond (missing word) None (cond (is_hex word) (number_in 16 (drop 2 word)) (number_in 10 word))

-- a number that is not above a limit
abbrev pub within : ℕ → Option ℕ → Option ℕ
within most (Some n) = cond (leb n most) (Some n) None
within most None = None

unfoldable pub up_to : ℕ → List ℕ → Option ℕ
up_to most word = within most (number_of word)
