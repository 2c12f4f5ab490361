-- The definitions read at some words, with near misses both ways.
use Rattle.std.specs.Prelude.{ℕ, ◌-◌, ◌^◌, ◌≡◌, Bool, true, false, [], ◌∷◌}
use Rattle.scalar.specs.declared.width.Width.{Width}
use Rattle.scalar.specs.declared.width.Width.TheVariants.{Word, Double}
use Rattle.scalar.specs.declared.operator.Operator.{Operator}
use Rattle.scalar.specs.declared.operator.Operator.TheVariants.{Add, Sra, Mul, Remuw}
use Rattle.decode.specs.declared.decoded.Operand.TheVariants.{Plain, Vector}
use Rattle.decode.specs.declared.decoded.ResolvedOperand.{ResolvedOperand}
use Rattle.decode.specs.declared.decoded.SecondOperand.{SecondOperand}
use Rattle.decode.specs.declared.decoded.SecondOperand.TheVariants.{Register, Immediate}
use Rattle.decode.specs.declared.decoded.Decoded.{Decoded}
use Rattle.decode.specs.declared.decoded.Decoded.TheVariants.{Operation, Move, Load, Store, Unknown}
use Rattle.decode.specs.Decoding.{decoded}

-- an untagged operand without a mask
abbrev pub plain : ℕ → ResolvedOperand
plain n = record { operand = Plain n; width = 0; predicate = 0 }

-- LD and LWU x5, 8(x6)
abbrev pub loaded : Width → Bool → Decoded
loaded w s = Load (record { destination = plain 5; address = plain 6; offset = 8; width = w; signed = s })

-- an operation from x6 to x5
abbrev pub onto5 : Operator → SecondOperand → Decoded
onto5 o s = Operation (record { operator = o; destination = plain 5; first = plain 6; second = s })

-- a word where no entry is enabled
abbrev pub untagged : ℕ → Decoded
untagged word = decoded word 31 [] []

pub record Examples : Type 0 where
  -- ADD x5, x6, x7, with funct7 1, which is MUL, and with funct7 3
  pub add : untagged 0x0073_02b3 ≡ onto5 Add (Register (plain 7))
  pub mul : untagged 0x0273_02b3 ≡ onto5 Mul (Register (plain 7))
  pub not_add : untagged 0x0673_02b3 ≡ Unknown
  -- REMUW x5, x6, x7, and with funct3 1, 2 and 3, which no word operation of RV64M has
  pub remuw : untagged 0x0273_72bb ≡ onto5 Remuw (Register (plain 7))
  pub not_mulhw : untagged 0x0273_12bb ≡ Unknown
  pub not_mulhsuw : untagged 0x0273_22bb ≡ Unknown
  pub not_mulhuw : untagged 0x0273_32bb ≡ Unknown
  -- ADDI x5, x6, -1
  pub addi : untagged 0xfff3_0293 ≡ onto5 Add (Immediate (2 ^ 64 - 1))
  -- SRAI x5, x6, 63, and with bit 26 set
  pub srai : untagged 0x43f3_5293 ≡ onto5 Sra (Immediate 63)
  pub not_srai : untagged 0x47f3_5293 ≡ Unknown
  -- SRAIW x5, x6, 31 has bit 25 clear
  pub not_sraiw : untagged 0x43f3_529b ≡ Unknown
  -- LD x5, 8(x6), LWU x5, 8(x6), and funct3 7
  pub ld : untagged 0x0083_3283 ≡ loaded Double true
  pub lwu : untagged 0x0083_6283 ≡ loaded Word false
  pub not_load : untagged 0x0083_7283 ≡ Unknown
  -- SD x7, -8(x6), and funct3 4
  pub sd :
      untagged 0xfe73_3c23
      ≡ Store (record { «data» = plain 7; address = plain 6; offset = 2 ^ 64 - 8; width = Double })
  pub not_store : untagged 0xfe73_4c23 ≡ Unknown
  -- C.MV x5, x6, whatever the upper half; C.JR x5; C.MV x0, x6
  pub move : untagged 0xffff_829a ≡ Move (record { destination = plain 5; source = plain 6 })
  pub not_move : untagged 0x8282 ≡ Unknown
  pub move_to0 : untagged 0x801a ≡ Move (record { destination = plain 0; source = plain 6 })
  -- C.MV x5, x6 with a vector at x40 and a mask for key 5, both in entry 0
  pub tagged :
      decoded 0x829a 24 (0xa885 ∷ []) (0x2906 ∷ [])
      ≡ Move (record { destination = record { operand = Vector 40; width = 0; predicate = 0x2906 }; source = plain 6 })
