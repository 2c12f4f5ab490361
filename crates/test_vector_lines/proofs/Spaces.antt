-- A line of the right length, with its spaces, by the numbers between them.
use mathlib.Core.Path.{◌≡◌}
use mathlib.Core.Bool.{true}
use mathlib.Core.List.{List}
use Prim.Native.Nat.{ℕ}
use lib.ListN.{length}
use borrow.Author.Tests.{eq-eqb}
use Rattle.std.specs.Prelude.{Option, slice_range}
use Rattle.test_vector_lines.specs.Hex.{hex_number}
use Rattle.test_vector_lines.specs.Line.{line_of, spaced_of, whole_of}

pub spaced :
    (line : List ℕ) (word rs1 rs2 res : Option ℕ) → length line ≡ 59 → spaced_of line ≡ true →
    word ≡ hex_number (slice_range line 0 8) → rs1 ≡ hex_number (slice_range line 9 25) →
    rs2 ≡ hex_number (slice_range line 26 42) →
    res ≡ hex_number (slice_range line 43 59) → whole_of word rs1 rs2 res ≡ line_of line
unfolding line_of
spaced line word rs1 rs2 res long e w x y z = rw (eq-eqb (length line) 59 long, e, w, x, y, z)
