-- The registers that a word names have 7 bits at most.
use Prim.Native.Nat.{ℕ, ◌<◌}
use mathlib.Core.Bool.{Bool, true, false, cond, not, ◌&&◌}
use mathlib.Core.List.{List, [], ◌∷◌}
use lib.Dec.{eqb}
use lib.ListN.{get_or}
use native.Mathlib.Nat.{mod-lt}
use native.Mathlib.Omega.{arith}
use Rattle.bits.specs.Bits.{bits}
use Rattle.tables.specs.Entry.{register_entry}
use Rattle.tables.specs.Enabled.{enabled_range}
use Rattle.search.specs.Search.{held_entry}
use Rattle.std.specs.Prelude.{Option, Some, None}
use Rattle.search.specs.declared.Table.TheVariants as table
use Rattle.encoding.specs.declared.form.Form.{Form}
use Rattle.encoding.specs.declared.form.Form.TheVariants as form
use Rattle.encoding.specs.Fields.{rd, rs1, rs2, compressed_rs2}
use Rattle.encoding.specs.Listing.{form_of}
use Rattle.decode.specs.declared.decoded.ResolvedOperand.{ResolvedOperand}
use Rattle.decode.specs.declared.decoded.Operand.TheVariants.{Scalar, Vector}
use Rattle.decode.specs.Resolving.{resolved, operand_by}
use Rattle.decode.specs.Decoding.{decoded_as, compressed_move, decoded}
use Rattle.walk_operands.specs.Place.{place_by, place_of}
use Rattle.walk_plans.specs.Operands.{operands_of}
use Rattle.bits.proofs.Booleans.{by_cond}

-- every operand of a list has Q
abbrev pub All : (ResolvedOperand → Type 0) → List ResolvedOperand → Type 0
All Q [] = Unit {0}
All Q (n ∷ ns) = Q n × All Q ns

abbrev pub Small : ResolvedOperand → Type 0
Small n = (place_of n).register < 128

-- what holds of each register number of 5 bits holds of the operands of a word
module _ (Q : ResolvedOperand → Type 0) (get : ℕ → ResolvedOperand) (q : (k : ℕ) → k < 32 → Q (get k)) (word : ℕ) where
  rd_has : Q (get (rd word))
  rd_has = q (rd word) (mod-lt _ (omega arith))

  rs1_has : Q (get (rs1 word))
  rs1_has = q (rs1 word) (mod-lt _ (omega arith))

  rs2_has : Q (get (rs2 word))
  rs2_has = q (rs2 word) (mod-lt _ (omega arith))

  form_has : (f : Form) → All Q (operands_of (decoded_as get word f))
  unfolding decoded_as
  form_has (form.Register o) = (rd_has, (rs1_has, (rs2_has, tt)))
  form_has (form.Immediate o) = (rd_has, (rs1_has, tt))
  form_has (form.Shift o) = (rd_has, (rs1_has, tt))
  form_has (form.WordShift o) = (rd_has, (rs1_has, tt))
  form_has (form.Load w) = (rd_has, (rs1_has, tt))
  form_has (form.LoadUnsigned w) = (rd_has, (rs1_has, tt))
  form_has (form.Store w) = (rs2_has, (rs1_has, tt))
  form_has form.Unknown = tt

  move_has : All Q (operands_of (compressed_move get word))
  unfolding compressed_move
  move_has =
      by_cond (λ d. All Q (operands_of d))
      (eqb (bits 1 0 word) 0b10 && eqb (bits 15 12 word) 0b1000 && not (eqb (compressed_rs2 word) 0))
      (λ e. (rd_has, (q (compressed_rs2 word) (mod-lt _ (omega arith)), tt))) (λ e. tt)

-- a register that a number of 5 bits names has 7 bits at most
resolved_small :
    (cfg : ℕ) (register_table predicate_table : List ℕ) (key : ℕ) → key < 32 →
    Small (resolved cfg register_table predicate_table key)
unfolding resolved
resolved_small cfg register_table predicate_table key h =
    by (held_entry table.Register register_table (enabled_range cfg) key)
  where
    by : (e : Option ℕ) → (place_by (operand_by e register_table key)).register < 128
    by (Some i) = entry (register_entry (get_or register_table i 0)).vector
      where
        entry :
            (t : Bool) →
            (place_by (cond t (Vector (register_entry (get_or register_table i 0)).register)
            (Scalar (register_entry (get_or register_table i 0)).register))).register < 128
        entry true = mod-lt _ (omega arith)
        entry false = mod-lt _ (omega arith)
    by None = omega (arith, h)

pub word_small :
    (word cfg : ℕ) (register_table predicate_table : List ℕ) →
    All Small (operands_of (decoded word cfg register_table predicate_table))
unfolding decoded
word_small word cfg register_table predicate_table =
    let operand = resolved cfg register_table predicate_table in
    let small = resolved_small cfg register_table predicate_table in
    by_cond (λ d. All Small (operands_of d)) (eqb (bits 1 0 word) 0b11)
    (λ e. form_has Small operand small word (form_of word)) (λ e. move_has Small operand small word)
