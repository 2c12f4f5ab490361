-- A machine is in shape when its room and its tables are.
use mathlib.Core.Path.{◌≡◌}
use mathlib.Core.Bool.{true, ◌&&◌}
use lib.Dec.{eqb}
use lib.ListN.{get_or}
use borrow.Author.Tests.{eq-eqb, eqb-true}
use Rattle.tables.specs.Entry.{all_bit0_clear}
use Rattle.state_word.specs.State.{state_in_shape}
use Rattle.bits.proofs.Booleans.{and_left, and_right}
use Rattle.machine.specs.declared.Machine.{Machine}
use Rattle.machine.specs.Shape.{room_in_shape, tables_in_shape, in_shape}

-- the three parts of being in shape
pub record Parts (m : Machine) : Type 0 where
  pub state : state_in_shape m.state ≡ true
  pub zero_register : get_or m.registers 0 0 ≡ 0
  pub tables : all_bit0_clear m.predicate_table ≡ true

pub parts : (m : Machine) → in_shape m ≡ true → Parts m
unfolding in_shape room_in_shape tables_in_shape
parts m h = record {
  state = and_left _ _ (and_left _ _ h);
  zero_register = eqb-true _ _ (and_right (state_in_shape m.state) _ (and_left _ _ h));
  tables = and_right (state_in_shape m.state && eqb (get_or m.registers 0 0) 0) _ h;
}

pub in_shape-parts : (m : Machine) → Parts m → in_shape m ≡ true
unfolding in_shape room_in_shape tables_in_shape
in_shape-parts m p = rw (p.state, eq-eqb _ _ p.zero_register, p.tables)
