-- A number in hex digits, in lower case.
use Rattle.std.specs.Prelude.{ℕ, ◌+◌, ◌-◌, ◌*◌, ◌<◌, cond, ◌&&◌, List, [], ◌∷◌, leb, Option, None, Some}
use Rattle.std.specs.Prelude.{IfSome, option_and_then}

-- the value of a digit, by its ASCII code: 0 to 9, then a to f
unfoldable pub digit_of : ℕ → Option ℕ
digit_of b = cond (leb 48 b && leb b 57) (Some (b - 48)) (cond (leb 97 b && leb b 102) (Some (b - 87)) None)

-- digits written after a number
unfoldable pub digits_after : ℕ → List ℕ → Option ℕ
digits_after n [] = Some n
digits_after n (b ∷ bs) = option_and_then (λ d. digits_after (n * 16 + d) bs) (digit_of b)

abbrev pub hex_number : List ℕ → Option ℕ
hex_number bytes = digits_after 0 bytes

-- a number, where there is one, is below a bound
abbrev pub Below : ℕ → Option ℕ → Type 0
Below bound number = IfSome number (λ n. n < bound)
