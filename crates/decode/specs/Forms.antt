-- What the forms of 32 bits have in common, for the contracts of the code that finds it before the forms part: two
-- register operands, of which the second is rs1. What a word is, `decoded_as` says.
use Rattle.std.specs.Prelude.{ℕ, Bool, true, false, cond, List, Option}
use Rattle.encoding.specs.declared.form.Form.{Form}
use Rattle.encoding.specs.declared.form.Form.TheVariants.{Register, Immediate, Shift, WordShift}
use Rattle.encoding.specs.declared.form.Form.TheVariants.{Load, LoadUnsigned, Store, Unknown}
use Rattle.encoding.specs.Fields.{rd, rs2}
use Rattle.decode.specs.Resolving.{predicate_by}

-- the first operand is what is written, or a store's data
abbrev pub first_key : Form → ℕ → ℕ
first_key (Register o) word = rd word
first_key (Immediate o) word = rd word
first_key (Shift o) word = rd word
first_key (WordShift o) word = rd word
first_key (Load w) word = rd word
first_key (LoadUnsigned w) word = rd word
first_key (Store w) word = rs2 word
first_key Unknown word = rd word

-- rs1 is an address, whose mask counts too
abbrev pub is_access : Form → Bool
is_access (Register o) = false
is_access (Immediate o) = false
is_access (Shift o) = false
is_access (WordShift o) = false
is_access (Load w) = true
is_access (LoadUnsigned w) = true
is_access (Store w) = true
is_access Unknown = false

-- the word of the predicate entry of rs1, where its mask counts
abbrev pub address_predicate : Form → Option ℕ → List ℕ → ℕ
address_predicate form held entries = cond (is_access form) (predicate_by held entries) 0
