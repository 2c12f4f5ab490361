-- The fields of a word, by the manual's numbers of their bits.
use Rattle.std.specs.Prelude.{ℕ, ◌+◌, ◌-◌, ◌*◌, ◌^◌, cond, ltb}
use Rattle.bits.specs.Bits.{bits}

abbrev pub opcode : ℕ → ℕ
opcode word = bits 6 0 word

abbrev pub rd : ℕ → ℕ
rd word = bits 11 7 word

abbrev pub funct3 : ℕ → ℕ
funct3 word = bits 14 12 word

abbrev pub rs1 : ℕ → ℕ
rs1 word = bits 19 15 word

abbrev pub rs2 : ℕ → ℕ
rs2 word = bits 24 20 word

abbrev pub shift_amount : ℕ → ℕ
shift_amount word = bits 25 20 word

abbrev pub word_shift_amount : ℕ → ℕ
word_shift_amount word = bits 24 20 word

-- 12 bits stand for the number n, and from 2^11 on for n - 2^12; modulo 2^64
abbrev pub sign_extended : ℕ → ℕ
sign_extended n = cond (ltb n (2 ^ 11)) n (n + (2 ^ 64 - 2 ^ 12))

-- I immediate
abbrev pub immediate : ℕ → ℕ
immediate word = sign_extended (bits 31 20 word)

-- S immediate: its bits 11..5 are bits 31..25 of the word, its bits 4..0 are bits 11..7
abbrev pub store_immediate : ℕ → ℕ
store_immediate word = sign_extended (bits 31 25 word * 2 ^ 5 + bits 11 7 word)

-- the second register of a word of 16 bits; the first is where rd is
abbrev pub compressed_rs2 : ℕ → ℕ
compressed_rs2 word = bits 6 2 word
