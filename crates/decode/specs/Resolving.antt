-- What a register number of an instruction names.
use Rattle.std.specs.Prelude.{ℕ, cond, List, get_or, Option, Some, None}
use Rattle.tables.specs.declared.entry.RegisterEntry.{RegisterEntry}
use Rattle.search.specs.declared.Table.TheVariants as table
use Rattle.tables.specs.Entry.{register_entry}
use Rattle.tables.specs.Enabled.{enabled_range}
use Rattle.search.specs.Search.{held_entry}
use Rattle.decode.specs.declared.decoded.Operand.{Operand}
use Rattle.decode.specs.declared.decoded.Operand.TheVariants.{Plain, Scalar, Vector}
use Rattle.decode.specs.declared.decoded.ResolvedOperand.{ResolvedOperand}

abbrev pub redirected : RegisterEntry → Operand
redirected entry = cond entry.vector (Vector entry.register) (Scalar entry.register)

-- An entry redirects; an untagged operand is scalar and names itself.
abbrev pub operand_by : Option ℕ → List ℕ → ℕ → Operand
operand_by (Some i) entries key = redirected (register_entry (get_or entries i 0))
operand_by None entries key = Plain key

abbrev pub width_by : Option ℕ → List ℕ → ℕ
width_by (Some i) entries = (register_entry (get_or entries i 0)).width
width_by None entries = 0

-- zero is an empty entry
abbrev pub predicate_by : Option ℕ → List ℕ → ℕ
predicate_by (Some i) entries = get_or entries i 0
predicate_by None entries = 0

-- an operand by the register entry that holds for its key, and the word of a predicate entry
abbrev pub resolved_by : Option ℕ → List ℕ → ℕ → ℕ → ResolvedOperand
resolved_by held register_table key predicate = record {
  operand = operand_by held register_table key;
  width = width_by held register_table;
  predicate = predicate;
}

-- The key is the register number written in the instruction, for both tables.
unfoldable pub resolved : ℕ → List ℕ → List ℕ → ℕ → ResolvedOperand
resolved cfg register_table predicate_table key =
    let range = enabled_range cfg in
    resolved_by (held_entry table.Register register_table range key) register_table key
    (predicate_by (held_entry table.Predicate predicate_table range key) predicate_table)

-- an operand as if no predicate entry held for it
abbrev pub unmasked : ResolvedOperand → ResolvedOperand
unmasked n = record { operand = n.operand; width = n.width; predicate = 0 }
