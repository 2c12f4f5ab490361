-- Fields of a word, by the numbers of their bits.
use Rattle.std.specs.Prelude.{ℕ, ◌+◌, ◌-◌, ◌*◌, ◌/◌, ◌%◌, ◌^◌, Bool, eqb}

-- bits high..low of a word
abbrev pub bits : ℕ → ℕ → ℕ → ℕ
bits high low word = word / 2 ^ low % 2 ^ (high + 1 - low)

-- whether bit n of a word is 1
abbrev pub bit : ℕ → ℕ → Bool
bit n word = eqb (bits n n word) 1

-- a value set in bits high..low of a word that is 0 elsewhere
abbrev pub in_bits : ℕ → ℕ → ℕ → ℕ
in_bits high low value = value % 2 ^ (high + 1 - low) * 2 ^ low
