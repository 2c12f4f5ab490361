-- The machine: the fresh one, and when one is in shape.
use Rattle.std.specs.Prelude.{◌≡◌, Bool, ◌&&◌, eqb, length, get_or, replicate}
use Rattle.tables.specs.Entry.{all_bit0_clear}
use Rattle.state_word.specs.State.{state_in_shape}
use Rattle.machine.specs.declared.Machine.{Machine}
use Rattle.machine.specs.Update.{Room, Tables, room_of, tables_of}

-- MVL 1, VL 1, CFG 24 and all else zero
abbrev pub fresh_machine : Machine
fresh_machine = record {
  registers = replicate 128 0;
  pc = 0;
  state = record { mvl = 1; vl = 1; cfg = 24; source = 0; destination = 0 };
  register_table = replicate 16 0;
  predicate_table = replicate 16 0;
}

-- the ranges of the state, and register 0, which is 0
unfoldable pub room_in_shape : Room → Bool
room_in_shape room = state_in_shape room.state && eqb (get_or room.registers 0 0) 0

-- bit 0 of all 16 predicate entries is zero
unfoldable pub tables_in_shape : Tables → Bool
tables_in_shape tables = all_bit0_clear tables.predicate_table

-- A machine is in shape when none of answer 6's reasons applies.
unfoldable pub in_shape : Machine → Bool
in_shape m = room_in_shape (room_of m) && tables_in_shape (tables_of m)

-- What the types of the machine's arrays say: 128 registers, 16 entries in each table.
pub record Sized (m : Machine) : Type 0 where
  pub registers : length m.registers ≡ 128
  pub register_table : length m.register_table ≡ 16
  pub predicate_table : length m.predicate_table ≡ 16
