-- The lines that a stream prints: numbers in unsigned decimal with one space between, and a line end.
use Rattle.std.specs.Prelude.{ℕ, zero, suc, cond, List, [], ◌∷◌, ◌++◌, eqb, get_or}
use Rattle.stream_text.specs.Decimal.{decimal}

abbrev pub space : ℕ
space = 32

abbrev pub newline : ℕ
newline = 10

abbrev pub number_then : ℕ → ℕ → List ℕ
number_then n after = decimal n ++ after ∷ []

-- For a run: answer, program counter, source and destination offset.
unfoldable pub run_line : ℕ → ℕ → ℕ → ℕ → List ℕ
run_line answer pc source destination =
    number_then answer space ++ number_then pc space ++ number_then source space ++ number_then destination newline

-- "refused "
abbrev pub refused_word : List ℕ
refused_word = 114 ∷ 101 ∷ 102 ∷ 117 ∷ 115 ∷ 101 ∷ 100 ∷ 32 ∷ []

-- A refused setting: "refused" and the number.
unfoldable pub refused_line : ℕ → List ℕ
refused_line answer = refused_word ++ number_then answer newline

-- "bad record at "
abbrev pub bad_record_words : List ℕ
bad_record_words = 98 ∷ 97 ∷ 100 ∷ 32 ∷ 114 ∷ 101 ∷ 99 ∷ 111 ∷ 114 ∷ 100 ∷ 32 ∷ 97 ∷ 116 ∷ 32 ∷ []

-- An unknown kind or a cut record: "bad record at" and its offset.
unfoldable pub bad_record_line : ℕ → List ℕ
bad_record_line offset = bad_record_words ++ number_then offset newline

-- A register: "x" and its number, and its value.
unfoldable pub register_line : ℕ → ℕ → List ℕ
register_line index value = (120 ∷ []) ++ number_then index space ++ number_then value newline

-- a register that is 0 has no line
unfoldable pub nonzero_line : ℕ → ℕ → List ℕ
nonzero_line index value = cond (eqb value 0) [] (register_line index value)

-- the registers below n, rising
unfoldable pub lines_below : List ℕ → ℕ → List ℕ
lines_below registers zero = []
lines_below registers (suc n) = lines_below registers n ++ nonzero_line n (get_or registers n 0)
