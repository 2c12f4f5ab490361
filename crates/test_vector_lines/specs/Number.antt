-- A number in the digits of some base.
use Rattle.std.specs.Prelude.{ℕ, ◌+◌, ◌*◌, ◌^◌, cond, ◌&&◌, List, [], ◌∷◌, ltb, Option, None, Some, option_and_then}
use Rattle.test_vector_lines.specs.Hex.{digit_of}

-- digits in a base after a number; no digit follows a number of more than 60 bits, so that all fit 64
unfoldable pub digits_after : ℕ → ℕ → List ℕ → Option ℕ
digits_after base n [] = Some n
digits_after base n (b ∷ bs) =
    option_and_then (λ d. cond (ltb d base && ltb n (2 ^ 60)) (digits_after base (n * base + d) bs) None) (digit_of b)

abbrev pub number_in : ℕ → List ℕ → Option ℕ
number_in base digits = digits_after base 0 digits
