-- The refusals of a run, each with exactly its condition, in the order 6, 2, 4, 3.
use Rattle.std.specs.Prelude.{ℕ, ◌+◌, ◌-◌, ◌≤◌, ◌≡◌, ◌↔◌, true, false}
use Rattle.answers.specs.Answer.{number_of}
use Rattle.decode.specs.declared.decoded.ResolvedOperand.{ResolvedOperand}
use Rattle.decode.specs.declared.decoded.Decoded.{Decoded}
use Rattle.decode.specs.declared.decoded.Decoded.TheVariants.{Unknown}
use Rattle.walk_operands.specs.Place.{place_of}
use Rattle.walk_plans.specs.Operands.{operands_of}
use Rattle.machine.specs.declared.Machine.{Machine}
use Rattle.machine.specs.Shape.{in_shape}
use Rattle.machine.specs.Run.{System, word_on, run}
use Rattle.bits.specs.Lists.{Some}

-- the entry that holds for an operand has a width other than 00
abbrev pub OtherWidth : ResolvedOperand → Type 0
OtherWidth n = n.width ≡ 0 → ⊥

abbrev pub SomeOtherWidth : Decoded → Type 0
SomeOtherWidth word = Some OtherWidth (operands_of word)

-- a vector operand's register + VL - 1 is above 127
abbrev pub PastVector : ℕ → ResolvedOperand → Type 0
PastVector vl n = ((place_of n).vector ≡ true) × (128 ≤ (place_of n).register + (vl - 1))

abbrev pub SomePastVector : Machine → Decoded → Type 0
SomePastVector m word = Some (PastVector m.state.vl) (operands_of word)

-- a decoded word on a machine, and the number that its run answers
pub record RefusedBy (m : Machine) (word : Decoded) (number : ℕ) : Type 0 where
  pub shape : number ≡ 6 ↔ in_shape m ≡ false
  pub unknown : number ≡ 2 ↔ (in_shape m ≡ true) × (word ≡ Unknown)
  pub width : number ≡ 4 ↔ (in_shape m ≡ true) × (word ≡ Unknown → ⊥) × SomeOtherWidth word
  pub past :
      number ≡ 3 ↔ (in_shape m ≡ true) × (word ≡ Unknown → ⊥) × (SomeOtherWidth word → ⊥) × SomePastVector m word

-- whatever the allowance and the memory
abbrev pub RefusedExactly : Type 0
RefusedExactly =
    (word n : ℕ) (s : System) →
    RefusedBy s.machine (word_on word s.machine) (number_of (run word n s).answer)
