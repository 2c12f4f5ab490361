-- The register operands of a word, and the refusals that look at them. An immediate is no operand.
use Rattle.std.specs.Prelude.{ℕ, Bool, cond, List, [], ◌∷◌, eqb}
use Rattle.bits.specs.Lists.{all}
use Rattle.answers.specs.declared.Answer.{Answer}
use Rattle.answers.specs.declared.Answer.TheVariants.{Done, PastRegisters, BadWidth}
use Rattle.decode.specs.declared.decoded.ResolvedOperand.{ResolvedOperand}
use Rattle.decode.specs.declared.decoded.SecondOperand.{SecondOperand}
use Rattle.decode.specs.declared.decoded.SecondOperand.TheVariants.{Register, Immediate}
use Rattle.decode.specs.declared.decoded.Decoded.{Decoded}
use Rattle.decode.specs.declared.decoded.Decoded.TheVariants.{Operation, Move, Load, Store, Unknown}
use Rattle.walk_operands.specs.Place.{place_of, fits}

abbrev pub second_operands : SecondOperand → List ResolvedOperand
second_operands (Register n) = n ∷ []
second_operands (Immediate value) = []

abbrev pub operands_of : Decoded → List ResolvedOperand
operands_of (Operation w) = w.destination ∷ w.first ∷ second_operands w.second
operands_of (Move w) = w.destination ∷ w.source ∷ []
operands_of (Load w) = w.destination ∷ w.address ∷ []
operands_of (Store w) = w.«data» ∷ w.address ∷ []
operands_of Unknown = []

-- answer 4 is for an operand whose entry has a width other than 00
unfoldable pub default_width : ResolvedOperand → Bool
default_width n = eqb n.width 0

-- answer 3 is for one that reaches past the registers
unfoldable pub fitting : ℕ → ResolvedOperand → Bool
fitting vl n = fits vl (place_of n)

-- The answers 4 and 3 of some operands, in that order, and 0 where neither applies. 3 is given regardless of masks.
unfoldable pub checked_operands : ℕ → List ResolvedOperand → Answer
checked_operands vl ns = cond (all default_width ns) (cond (all (fitting vl) ns) (Done 0) PastRegisters) BadWidth

abbrev pub checked : ℕ → Decoded → Answer
checked vl word = checked_operands vl (operands_of word)
