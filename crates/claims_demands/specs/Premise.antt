-- The premise of demand 3: no mask register set for an operand lies among the registers that the instruction may write.
use Rattle.std.specs.Prelude.{ℕ, ◌<◌, ◌≡◌, List, [], ◌∷◌}
use Rattle.decode.specs.declared.decoded.ResolvedOperand.{ResolvedOperand}
use Rattle.decode.specs.declared.decoded.Decoded.{Decoded}
use Rattle.decode.specs.declared.decoded.Decoded.TheVariants.{Operation, Move, Load, Store, Unknown}
use Rattle.tables.specs.Entry.{predicate_entry}
use Rattle.walk_operands.specs.Place.{place_of, register_at}
use Rattle.walk_plans.specs.Operands.{operands_of}
use Rattle.machine.specs.declared.Machine.{Machine}
use Rattle.machine.specs.Run.{word_on}
use Rattle.bits.specs.Lists.{Some}

-- a store has no destination
abbrev pub destinations_of : Decoded → List ResolvedOperand
destinations_of (Operation w) = w.destination ∷ []
destinations_of (Move w) = w.destination ∷ []
destinations_of (Load w) = w.destination ∷ []
destinations_of (Store w) = []
destinations_of Unknown = []

-- The mask register set for an operand is the one in the predicate entry that holds for it.
abbrev pub MaskSet : ℕ → ResolvedOperand → Type 0
MaskSet r n = (n.predicate ≡ 0 → ⊥) × ((predicate_entry n.predicate).mask ≡ r)

abbrev pub IsMask : Decoded → ℕ → Type 0
IsMask word r = Some (MaskSet r) (operands_of word)

-- some position below VL has register r
pub record Reaches (vl r : ℕ) (n : ResolvedOperand) : Type 0 where
  pub position : ℕ
  pub below : position < vl
  pub register : register_at (place_of n) position ≡ r

-- the registers that an instruction may write
abbrev pub MayWrite : ℕ → Decoded → ℕ → Type 0
MayWrite vl word r = Some (Reaches vl r) (destinations_of word)

-- taken from the machine at the start
abbrev pub Apart : ℕ → Machine → Type 0
Apart word m = (r : ℕ) → IsMask (word_on word m) r → MayWrite m.state.vl (word_on word m) r → ⊥
