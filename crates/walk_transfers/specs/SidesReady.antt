-- What the layer above has established before the walk of a move, a load or a store: VL at most 64, registers that
-- exist, offsets below VL.
use Rattle.std.specs.Prelude.{ℕ, ◌<◌, ◌≤◌, true, false, ◌≡◌}
use Rattle.walk_operands.specs.Place.{fits}
use Rattle.walk_operations.specs.declared.position.Position.{Position}
use Rattle.walk_pairs.specs.declared.Side.{Side}
use Rattle.walk_transfers.specs.declared.sides.Sides.{Sides}

pub record SidesReady (s : Sides) : Type 0 where
  pub most : s.vl ≤ 64
  pub source : fits s.vl s.source.place ≡ true
  pub destination : fits s.vl s.destination.place ≡ true

-- a side that doesn't walk stands at position 0
pub record Stands (s : Sides) (p : Position) : Type 0 where
  pub source : s.source.walks ≡ false → p.source ≡ 0
  pub destination : s.destination.walks ≡ false → p.destination ≡ 0

-- a side of registers, which no address is, walks only where its operand is a vector
abbrev pub OfRegisters : Side → Type 0
OfRegisters s = s.walks ≡ true → s.place.vector ≡ true

-- both offsets below VL
pub record Within (vl : ℕ) (p : Position) : Type 0 where
  pub source : p.source < vl
  pub destination : p.destination < vl

-- where the walk of both sides may begin, and where each of its units does
abbrev pub Begins : Sides → Position → Type 0
Begins s p = SidesReady s × Within s.vl p

abbrev pub Standing : Sides → Position → Type 0
Standing s p = SidesReady s × Within s.vl p × Stands s p

-- a move has registers on both
abbrev pub MoveBegins : Sides → Position → Type 0
MoveBegins s p = Begins s p × OfRegisters s.source × OfRegisters s.destination

abbrev pub MoveStanding : Sides → Position → Type 0
MoveStanding s p = Standing s p × OfRegisters s.source × OfRegisters s.destination
