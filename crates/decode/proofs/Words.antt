-- A word put together from its operands as they were found.
use Prim.Native.Nat.{ℕ}
use mathlib.Core.Path.{◌≡◌}
use mathlib.Core.Bool.{Bool}
use Rattle.scalar.specs.declared.operator.Operator.{Operator}
use Rattle.scalar.specs.declared.width.Width.{Width}
use Rattle.encoding.specs.Fields.{rd, rs1, rs2, immediate, store_immediate}
use Rattle.decode.specs.declared.decoded.ResolvedOperand.{ResolvedOperand}
use Rattle.decode.specs.declared.decoded.SecondOperand.{SecondOperand}
use Rattle.decode.specs.declared.decoded.Decoded.TheVariants.{Operation, Load, Store}
use Rattle.decode.specs.Resolving.{unmasked}
use Rattle.decode.specs.Decoding.{operation_with, load_with, store_with, second_unmasked, sources_unmasked}

module _ (operand : ℕ → ResolvedOperand) (word : ℕ) where
  pub operation_is :
      (o : Operator) (s : SecondOperand) {d a : ResolvedOperand} {b : SecondOperand} →
      d ≡ operand (rd word) → a ≡ unmasked (operand (rs1 word)) → b ≡ second_unmasked s →
      Operation (record { operator = o; destination = d; first = a; second = b })
      ≡ sources_unmasked (operation_with operand word o s)
  operation_is o s e f g = rw (e, f, g)

  pub load_is :
      (w : Width) (s : Bool) {d a : ResolvedOperand} → d ≡ operand (rd word) → a ≡ operand (rs1 word) →
      Load (record { destination = d; address = a; offset = immediate word; width = w; signed = s })
      ≡ sources_unmasked (load_with operand word w s)
  load_is w s e f = rw (e, f)

  pub store_is :
      (w : Width) {d a : ResolvedOperand} {offset : ℕ} →
      d ≡ operand (rs2 word) → a ≡ operand (rs1 word) → offset ≡ store_immediate word →
      Store (record { «data» = d; address = a; offset = offset; width = w }) ≡ sources_unmasked (store_with operand word w)
  store_is w e f g = rw (e, f, g)
