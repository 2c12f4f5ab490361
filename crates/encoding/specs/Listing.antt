-- The instructions of 32 bits that are served: a row for each, as the manual's listings of RV64I and RV64M
-- have them.
use Rattle.std.specs.Prelude.{ℕ, Bool, true, cond, ◌&&◌, List, [], ◌∷◌, ◌++◌, eqb}
use Rattle.bits.specs.Bits.{bits}
use Rattle.scalar.specs.declared.width.Width.TheVariants.{Byte, Half, Word, Double}
use Rattle.scalar.specs.declared.operator.Operator.TheVariants.{Add, Sub, Sll, Slt, Sltu, Xor, Srl, Sra, Or, And}
use Rattle.scalar.specs.declared.operator.Operator.TheVariants.{Addw, Subw, Sllw, Srlw, Sraw}
use Rattle.scalar.specs.declared.operator.Operator.TheVariants.{Mul, Mulh, Mulhsu, Mulhu, Div, Divu, Rem, Remu}
use Rattle.scalar.specs.declared.operator.Operator.TheVariants.{Mulw, Divw, Divuw, Remw, Remuw}
use Rattle.encoding.specs.declared.form.Form.{Form}
use Rattle.encoding.specs.declared.form.Form.TheVariants.{Register, Immediate, Shift, WordShift}
use Rattle.encoding.specs.declared.form.Form.TheVariants.{Load, LoadUnsigned, Store, Unknown}
use Rattle.encoding.specs.Fields.{opcode, funct3}

-- what a row asks of the highest bits of a word: nothing, or that bits 31..low are n
pub data Top : Type 0 where
  any : Top
  from : ℕ → ℕ → Top

-- bits 31..26, above a shift amount of 6 bits
abbrev pub funct6 : ℕ → Top
funct6 n = from 26 n

-- bits 31..25
abbrev pub funct7 : ℕ → Top
funct7 n = from 25 n

pub record Row : Type 0 where
  pub top : Top
  pub funct3 : ℕ
  pub opcode : ℕ
  pub form : Form

abbrev pub row : Top → ℕ → ℕ → Form → Row
row t f o i = record { top = t; funct3 = f; opcode = o; form = i }

-- The columns are the fixed fields of the manual's listing, from left to right.

-- loads, stores, and operations with an immediate
unfoldable pub funct3_rows : List Row
funct3_rows =
    row any 0b000 0b0000011 (Load Byte)
    ∷ row any 0b001 0b0000011 (Load Half)
    ∷ row any 0b010 0b0000011 (Load Word)
    ∷ row any 0b011 0b0000011 (Load Double)
    ∷ row any 0b100 0b0000011 (LoadUnsigned Byte)
    ∷ row any 0b101 0b0000011 (LoadUnsigned Half)
    ∷ row any 0b110 0b0000011 (LoadUnsigned Word)
    ∷ row any 0b000 0b0100011 (Store Byte)
    ∷ row any 0b001 0b0100011 (Store Half)
    ∷ row any 0b010 0b0100011 (Store Word)
    ∷ row any 0b011 0b0100011 (Store Double)
    ∷ row any 0b000 0b0010011 (Immediate Add)
    ∷ row any 0b010 0b0010011 (Immediate Slt)
    ∷ row any 0b011 0b0010011 (Immediate Sltu)
    ∷ row any 0b100 0b0010011 (Immediate Xor)
    ∷ row any 0b110 0b0010011 (Immediate Or)
    ∷ row any 0b111 0b0010011 (Immediate And)
    ∷ row any 0b000 0b0011011 (Immediate Addw)
    ∷ []

-- shifts by an immediate
unfoldable pub funct6_rows : List Row
funct6_rows =
    row (funct6 0b000000) 0b001 0b0010011 (Shift Sll)
    ∷ row (funct6 0b000000) 0b101 0b0010011 (Shift Srl)
    ∷ row (funct6 0b010000) 0b101 0b0010011 (Shift Sra)
    ∷ []

-- shifts of a word by an immediate, and operations on two registers
unfoldable pub funct7_rows : List Row
funct7_rows =
    row (funct7 0b0000000) 0b001 0b0011011 (WordShift Sllw)
    ∷ row (funct7 0b0000000) 0b101 0b0011011 (WordShift Srlw)
    ∷ row (funct7 0b0100000) 0b101 0b0011011 (WordShift Sraw)
    ∷ row (funct7 0b0000000) 0b000 0b0110011 (Register Add)
    ∷ row (funct7 0b0100000) 0b000 0b0110011 (Register Sub)
    ∷ row (funct7 0b0000000) 0b001 0b0110011 (Register Sll)
    ∷ row (funct7 0b0000000) 0b010 0b0110011 (Register Slt)
    ∷ row (funct7 0b0000000) 0b011 0b0110011 (Register Sltu)
    ∷ row (funct7 0b0000000) 0b100 0b0110011 (Register Xor)
    ∷ row (funct7 0b0000000) 0b101 0b0110011 (Register Srl)
    ∷ row (funct7 0b0100000) 0b101 0b0110011 (Register Sra)
    ∷ row (funct7 0b0000000) 0b110 0b0110011 (Register Or)
    ∷ row (funct7 0b0000000) 0b111 0b0110011 (Register And)
    ∷ row (funct7 0b0000000) 0b000 0b0111011 (Register Addw)
    ∷ row (funct7 0b0100000) 0b000 0b0111011 (Register Subw)
    ∷ row (funct7 0b0000000) 0b001 0b0111011 (Register Sllw)
    ∷ row (funct7 0b0000000) 0b101 0b0111011 (Register Srlw)
    ∷ row (funct7 0b0100000) 0b101 0b0111011 (Register Sraw)
    ∷ row (funct7 0b0000001) 0b000 0b0110011 (Register Mul)
    ∷ row (funct7 0b0000001) 0b001 0b0110011 (Register Mulh)
    ∷ row (funct7 0b0000001) 0b010 0b0110011 (Register Mulhsu)
    ∷ row (funct7 0b0000001) 0b011 0b0110011 (Register Mulhu)
    ∷ row (funct7 0b0000001) 0b100 0b0110011 (Register Div)
    ∷ row (funct7 0b0000001) 0b101 0b0110011 (Register Divu)
    ∷ row (funct7 0b0000001) 0b110 0b0110011 (Register Rem)
    ∷ row (funct7 0b0000001) 0b111 0b0110011 (Register Remu)
    ∷ row (funct7 0b0000001) 0b000 0b0111011 (Register Mulw)
    ∷ row (funct7 0b0000001) 0b100 0b0111011 (Register Divw)
    ∷ row (funct7 0b0000001) 0b101 0b0111011 (Register Divuw)
    ∷ row (funct7 0b0000001) 0b110 0b0111011 (Register Remw)
    ∷ row (funct7 0b0000001) 0b111 0b0111011 (Register Remuw)
    ∷ []

abbrev pub has_top : Top → ℕ → Bool
has_top any word = true
has_top (from low n) word = eqb (bits 31 low word) n

abbrev pub fits_row : ℕ → Row → Bool
fits_row word r = eqb (opcode word) r.opcode && eqb (funct3 word) r.funct3 && has_top r.top word

-- the form of the first row that passes a test; where none does, the word is unknown
unfoldable pub first_form : (Row → Bool) → List Row → Form
first_form test [] = Unknown
first_form test (r ∷ rows) = cond (test r) r.form (first_form test rows)

unfoldable pub look_up : List Row → ℕ → Form
look_up rows word = first_form (fits_row word) rows

abbrev pub listing : List Row
listing = funct3_rows ++ (funct6_rows ++ funct7_rows)

abbrev pub form_of : ℕ → Form
form_of word = look_up listing word
