-- A machine is a room and the tables. What it is with some of its fields replaced.
use Rattle.std.specs.Prelude.{ℕ, List}
use Rattle.state_word.specs.declared.State.{State}
use Rattle.machine.specs.declared.Machine.{Machine}

-- what one room has of its own
pub record Room : Type 0 where
  pub registers : List ℕ
  pub pc : ℕ
  pub state : State

pub record Tables : Type 0 where
  pub register_table : List ℕ
  pub predicate_table : List ℕ

abbrev pub room_of : Machine → Room
room_of m = record { registers = m.registers; pc = m.pc; state = m.state }

abbrev pub tables_of : Machine → Tables
tables_of m = record { register_table = m.register_table; predicate_table = m.predicate_table }

abbrev pub machine_with : Room → Tables → Machine
machine_with room tables = record {
  registers = room.registers;
  pc = room.pc;
  state = room.state;
  register_table = tables.register_table;
  predicate_table = tables.predicate_table;
}

abbrev pub with_room : Machine → Room → Machine
with_room m room = machine_with room (tables_of m)

abbrev pub with_tables : Machine → Tables → Machine
with_tables m tables = machine_with (room_of m) tables

abbrev pub with_registers : Machine → List ℕ → Machine
with_registers m registers = with_room m (record { registers = registers; pc = m.pc; state = m.state })

abbrev pub with_pc : Machine → ℕ → Machine
with_pc m pc = with_room m (record { registers = m.registers; pc = pc; state = m.state })

abbrev pub with_state : Machine → State → Machine
with_state m state = with_room m (record { registers = m.registers; pc = m.pc; state = state })

abbrev pub with_register_table : Machine → List ℕ → Machine
with_register_table m entries =
    with_tables m (record { register_table = entries; predicate_table = m.predicate_table })

abbrev pub with_predicate_table : Machine → List ℕ → Machine
with_predicate_table m entries =
    with_tables m (record { register_table = m.register_table; predicate_table = entries })
