-- A line of a file of test vectors: `word rs1 rs2 result`, the word in 8 hex digits and the others in 16, with one
-- space between and nothing else.
use Rattle.std.specs.Prelude.{ℕ, Bool, cond, ◌&&◌, List, eqb, length, get_or, slice_range, Option, None, Some}
use Rattle.test_vector_lines.specs.Hex.{hex_number}
use Rattle.test_vector_lines.specs.declared.line.TestVector.{TestVector}

abbrev pub space_at : List ℕ → ℕ → Bool
space_at line i = eqb (get_or line i 0) 32

abbrev pub spaced_of : List ℕ → Bool
spaced_of line = space_at line 8 && space_at line 25 && space_at line 42

-- the vector that four numbers make, where each is one
abbrev pub whole_of : Option ℕ → Option ℕ → Option ℕ → Option ℕ → Option TestVector
whole_of (Some word) (Some rs1) (Some rs2) (Some result) =
    Some (record { word = word; rs1 = rs1; rs2 = rs2; result = result })
whole_of (Some word) (Some rs1) (Some rs2) None = None
whole_of (Some word) (Some rs1) None result = None
whole_of (Some word) None rs2 result = None
whole_of None rs1 rs2 result = None

abbrev pub fields_of : List ℕ → Option TestVector
fields_of line =
    whole_of (hex_number (slice_range line 0 8)) (hex_number (slice_range line 9 25))
    (hex_number (slice_range line 26 42)) (hex_number (slice_range line 43 59))

unfoldable pub line_of : List ℕ → Option TestVector
line_of line = cond (eqb (length line) 59 && spaced_of line) (fields_of line) None
