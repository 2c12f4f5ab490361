-- A run does not depend on the masks of an operation's sources.
use Prim.Native.Nat.{ℕ}
use mathlib.Core.Path.{◌≡◌, refl}
use Rattle.bits.specs.Lists.{all}
use Rattle.decode.specs.declared.decoded.SecondOperand.{SecondOperand}
use Rattle.decode.specs.declared.decoded.SecondOperand.TheVariants.{Register, Immediate}
use Rattle.decode.specs.declared.decoded.OperationWord.{OperationWord}
use Rattle.decode.specs.declared.decoded.Decoded.{Decoded}
use Rattle.decode.specs.declared.decoded.Decoded.TheVariants.{Operation, Move, Load, Store, Unknown}
use Rattle.decode.specs.Decoding.{sources_unmasked as without_source_masks}
use Rattle.walk_plans.specs.Operands.{default_width, fitting, checked_operands}
use Rattle.walk_plans.specs.Plan.{operation_plan}
use Rattle.walk_operations.specs.Context.{Context}
use Rattle.walk_handler.specs.Prepare.{served, prepared}
use Rattle.walk_handler.specs.Unit.{handled}

pub sources_unmasked :
    (vl : ℕ) (d : Decoded) (n : ℕ) (c : Context) → handled vl (without_source_masks d) n c ≡ handled vl d n c
unfolding all handled prepared served checked_operands default_width fitting operation_plan
sources_unmasked vl (Operation w) n c = by w.second
  where
    by :
        (s : SecondOperand) →
        let word : OperationWord =
        record { operator = w.operator; destination = w.destination; first = w.first; second = s } in
        handled vl (without_source_masks (Operation word)) n c ≡ handled vl (Operation word) n c
    by (Register r) = refl
    by (Immediate value) = refl
sources_unmasked vl (Move w) n c = refl
sources_unmasked vl (Load w) n c = refl
sources_unmasked vl (Store w) n c = refl
sources_unmasked vl Unknown n c = refl
