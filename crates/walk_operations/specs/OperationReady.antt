-- What the layer above has established before a walk: VL at most 64, and registers that exist.
use Rattle.std.specs.Prelude.{◌≡◌, ℕ, ◌≤◌, true}
use Rattle.walk_operands.specs.Place.{fits}
use Rattle.walk_operations.specs.declared.operation.SecondPlace.{SecondPlace}
use Rattle.walk_operations.specs.declared.operation.SecondPlace.TheVariants.{Register, Immediate}
use Rattle.walk_operations.specs.declared.operation.OperationPlan.{OperationPlan}

abbrev pub SecondFits : ℕ → SecondPlace → Type 0
SecondFits vl (Register p) = fits vl p ≡ true
SecondFits vl (Immediate value) = Unit {0}

pub record OperationReady (p : OperationPlan) : Type 0 where
  pub most : p.vl ≤ 64
  pub destination : fits p.vl p.destination ≡ true
  pub first : fits p.vl p.first ≡ true
  pub second : SecondFits p.vl p.second
