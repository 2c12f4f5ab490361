-- The words of a line: what is between spaces.
use Rattle.std.specs.Prelude.{ℕ, Bool, cond, not, List, [], ◌∷◌, ◌++◌, ◌==◌, eqb, length, get_or, Option}
use Rattle.std.specs.List.{position}
use Prim.Native.Char.{code}
use Prim.Native.String.{String, [] as empty, ◌∷◌ as then}

-- the bytes of a text
abbrev pub ascii : String → List ℕ
ascii empty = []
ascii (then c text) = code c ∷ ascii text

-- some bytes are a word before others, or none
abbrev pub before : List ℕ → List (List ℕ) → List (List ℕ)
before [] words = words
before (b ∷ bs) words = (b ∷ bs) ∷ words

-- the words of a line whose first one has begun with some bytes
unfoldable pub words_after : List ℕ → List ℕ → List (List ℕ)
words_after begun [] = before begun []
words_after begun (b ∷ bs) = cond (eqb b 32) (before begun (words_after [] bs)) (words_after (begun ++ b ∷ []) bs)

abbrev pub words_of : List ℕ → List (List ℕ)
words_of line = words_after [] line

-- word n, counted from 0, and an empty one past the last
abbrev pub word_at : ℕ → List (List ℕ) → List ℕ
word_at n words = get_or words n []

-- there is no such word
abbrev pub missing : List ℕ → Bool
missing word = eqb (length word) 0

-- where a line's first byte is that is no space, and that is one
abbrev pub word_start : List ℕ → Option ℕ
word_start line = position (λ b. not (b == 32)) line

abbrev pub word_end : List ℕ → Option ℕ
word_end text = position (λ b. b == 32) text
