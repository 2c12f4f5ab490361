-- A word by its length: 16 bits, or 32 and then by its form.
use Prim.Native.Nat.{ℕ, ◌%◌}
use mathlib.Core.Path.{◌≡◌, refl}
use mathlib.Core.Bool.{Bool, true, false, cond, ◌&&◌, not}
use mathlib.Core.List.{List}
use lib.Dec.{eqb}
use native.Mathlib.Nat.{div-one}
use borrow.Author.Tests.{eq-eqb, ne_eqb}
use Rattle.bits.specs.Bits.{bits}
use Rattle.encoding.specs.Fields.{rd, compressed_rs2}
use Rattle.encoding.specs.Listing.{form_of}
use Rattle.decode.specs.declared.decoded.MoveWord.{MoveWord}
use Rattle.decode.specs.declared.decoded.Decoded.TheVariants.{Move, Unknown}
use Rattle.decode.specs.Resolving.{resolved}
use Rattle.decode.specs.Decoding.{decoded, decoded_as, compressed_move, sources_unmasked}

-- a move has no source of an operation
moves : (t : Bool) (w : MoveWord) → cond t (Move w) Unknown ≡ sources_unmasked (cond t (Move w) Unknown)
moves true w = refl
moves false w = refl

module _ (word cfg : ℕ) (register_table predicate_table : List ℕ) where
  pub of_16_bits :
      (word % 4 ≡ 3 → ⊥) →
      compressed_move (resolved cfg register_table predicate_table) word
      ≡ sources_unmasked (decoded word cfg register_table predicate_table)
  unfolding decoded compressed_move
  of_16_bits h =
      let operand = resolved cfg register_table predicate_table in
      rw (div-one, ne_eqb _ _ h)
      (moves (eqb (word % 4) 0b10 && eqb (bits 15 12 word) 0b1000 && not (eqb (compressed_rs2 word) 0))
      (record { destination = operand (rd word); source = operand (compressed_rs2 word) }))

  pub of_32_bits :
      word % 4 ≡ 3 →
      decoded_as (resolved cfg register_table predicate_table) word (form_of word)
      ≡ decoded word cfg register_table predicate_table
  unfolding decoded
  of_32_bits h = rw (div-one, eq-eqb _ _ h)
