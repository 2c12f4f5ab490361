-- What a word is, with its operands. `operand` says what a register number names.
use Rattle.std.specs.Prelude.{ℕ, Bool, true, false, cond, ◌&&◌, not, List, eqb}
use Rattle.scalar.specs.declared.width.Width.{Width}
use Rattle.scalar.specs.declared.operator.Operator.{Operator}
use Rattle.bits.specs.Bits.{bits}
use Rattle.decode.specs.declared.decoded.ResolvedOperand.{ResolvedOperand}
use Rattle.decode.specs.declared.decoded.SecondOperand.{SecondOperand}
use Rattle.decode.specs.declared.decoded.SecondOperand.TheVariants as second
use Rattle.decode.specs.declared.decoded.Decoded.{Decoded}
use Rattle.decode.specs.declared.decoded.Decoded.TheVariants.{Operation, Move, Load, Store, Unknown}
use Rattle.encoding.specs.declared.form.Form.{Form}
use Rattle.encoding.specs.declared.form.Form.TheVariants as form
use Rattle.encoding.specs.Fields.{rd, rs1, rs2, shift_amount, word_shift_amount, immediate, store_immediate, compressed_rs2}
use Rattle.encoding.specs.Listing.{form_of}
use Rattle.decode.specs.Resolving.{resolved, unmasked}

module _ (operand : ℕ → ResolvedOperand) (word : ℕ) where
  abbrev pub operation_with : Operator → SecondOperand → Decoded
  operation_with o s =
      Operation (record { operator = o; destination = operand (rd word); first = operand (rs1 word); second = s })

  abbrev pub load_with : Width → Bool → Decoded
  load_with w s =
      Load (record {
        destination = operand (rd word);
        address = operand (rs1 word);
        offset = immediate word;
        width = w;
        signed = s;
      })

  abbrev pub store_with : Width → Decoded
  store_with w =
      Store (record {
        «data» = operand (rs2 word);
        address = operand (rs1 word);
        offset = store_immediate word;
        width = w;
      })

  unfoldable pub decoded_as : Form → Decoded
  decoded_as (form.Register o) = operation_with o (second.Register (operand (rs2 word)))
  decoded_as (form.Immediate o) = operation_with o (second.Immediate (immediate word))
  decoded_as (form.Shift o) = operation_with o (second.Immediate (shift_amount word))
  decoded_as (form.WordShift o) = operation_with o (second.Immediate (word_shift_amount word))
  decoded_as (form.Load w) = load_with w true
  decoded_as (form.LoadUnsigned w) = load_with w false
  decoded_as (form.Store w) = store_with w
  decoded_as form.Unknown = Unknown

  -- C.MV is funct4 1000 with op 10 and a second register that isn't 0; every other word of 16 bits is unknown
  unfoldable pub compressed_move : Decoded
  compressed_move =
      cond (eqb (bits 1 0 word) 0b10 && eqb (bits 15 12 word) 0b1000 && not (eqb (compressed_rs2 word) 0))
      (Move (record { destination = operand (rd word); source = operand (compressed_rs2 word) }))
      Unknown

-- a word has 32 bits if its lowest two are 11, and 16 bits otherwise
unfoldable pub decoded : ℕ → ℕ → List ℕ → List ℕ → Decoded
decoded word cfg register_table predicate_table =
    let operand = resolved cfg register_table predicate_table in
    cond (eqb (bits 1 0 word) 0b11) (decoded_as operand word (form_of word)) (compressed_move operand word)

abbrev pub second_unmasked : SecondOperand → SecondOperand
second_unmasked (second.Register n) = second.Register (unmasked n)
second_unmasked (second.Immediate value) = second.Immediate value

-- Only the destination's mask counts in an operation, so that nothing is lost without those of its sources.
abbrev pub sources_unmasked : Decoded → Decoded
sources_unmasked (Operation w) =
    Operation (record {
      operator = w.operator;
      destination = w.destination;
      first = unmasked w.first;
      second = second_unmasked w.second;
    })
sources_unmasked (Move w) = Move w
sources_unmasked (Load w) = Load w
sources_unmasked (Store w) = Store w
sources_unmasked Unknown = Unknown
