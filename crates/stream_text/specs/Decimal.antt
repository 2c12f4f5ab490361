-- A number in decimal digits, with no zero before the first.
use Rattle.std.specs.Prelude.{ℕ, zero, suc, ◌+◌, ◌/◌, ◌%◌, cond, List, [], ◌∷◌, ◌++◌, ltb}

-- the ASCII code of a digit
abbrev pub digit : ℕ → ℕ
digit d = 48 + d

-- with at most so many digits before the last; antt computes the `let` only where it is needed
unfoldable pub digits : ℕ → ℕ → List ℕ
digits zero n = digit n ∷ []
digits (suc most) n =
    let above = digits most (n / 10) in
    cond (ltb n 10) (digit n ∷ []) (above ++ digit (n % 10) ∷ [])

-- a number has fewer digits than it counts, or one
unfoldable pub decimal : ℕ → List ℕ
unfolding digits
decimal n = digits n n
