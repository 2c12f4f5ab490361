-- MUL and the operations that give the high half, together.
use Rattle.std.specs.Prelude.{◌≡◌, ℕ, ◌^◌, ◌<◌, pos, ◌+ℤ◌, ◌*ℤ◌}
use Rattle.std.specs.Int.{w64}
use Rattle.scalar.specs.Signed.{interpreted}
use Rattle.scalar.specs.declared.signedness.Signedness.{Signedness}
use Rattle.scalar.specs.declared.signedness.Signedness.TheVariants.{Signed, Unsigned}
use Rattle.scalar.specs.declared.operator.Operator.{Operator}
use Rattle.scalar.specs.declared.operator.Operator.TheVariants.{Mul, Mulh, Mulhsu, Mulhu}
use Rattle.products.specs.Product.{of_product}
use Rattle.compute.specs.Compute.{computed}

-- an operation and MUL give the whole product of operands with these signs
abbrev pub Whole : Operator → Signedness → Signedness → Type 0
Whole o s t =
    (a b : ℕ) → a < 2 ^ 64 → b < 2 ^ 64 →
    interpreted (of_product s t) w64 (computed o a b) *ℤ pos (2 ^ 64) +ℤ pos (computed Mul a b)
    ≡ interpreted s w64 a *ℤ interpreted t w64 b

pub record WholeProducts : Type 0 where
  pub mulh : Whole Mulh Signed Signed
  pub mulhsu : Whole Mulhsu Signed Unsigned
  pub mulhu : Whole Mulhu Unsigned Unsigned
