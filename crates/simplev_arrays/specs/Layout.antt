-- How a machine stands in four arrays: registers, control, register table, predicate table.
use Rattle.std.specs.Prelude.{ℕ, ◌%◌, ◌^◌, ◌≡◌, cond, List, [], ◌∷◌, ltb, length, get_or}
use Rattle.std.specs.Borrow.{Bor}
use Rattle.state_word.specs.declared.State.{State}
use Rattle.machine.specs.declared.Machine.{Machine}
use Rattle.simplev_arrays.specs.declared.Lent.{Lent}

-- the control words after the first
abbrev pub state_of : List ℕ → State
state_of control = record {
  mvl = get_or control 1 0;
  vl = get_or control 2 0;
  cfg = get_or control 3 0;
  source = get_or control 4 0;
  destination = get_or control 5 0;
}

-- the low 32 bits of each field
unfoldable pub low_bits : State → State
low_bits s = record {
  mvl = s.mvl % 2 ^ 32;
  vl = s.vl % 2 ^ 32;
  cfg = s.cfg % 2 ^ 32;
  source = s.source % 2 ^ 32;
  destination = s.destination % 2 ^ 32;
}

-- an element of an array of a size, and another value where there is none
unfoldable pub element_at : {A : Type 0} → ℕ → List A → ℕ → A → A
element_at size elements index missing = cond (ltb index size) (get_or elements index missing) missing

-- the machine that four arrays hold
abbrev pub machine_of : List ℕ → List ℕ → List ℕ → List ℕ → Machine
machine_of registers control register_table predicate_table = record {
  registers = registers;
  pc = get_or control 0 0;
  state = state_of control;
  register_table = register_table;
  predicate_table = predicate_table;
}

-- the same, of arrays as they are lent
abbrev pub machine_in : Bor (List ℕ) → Bor (List ℕ) → Bor (List ℕ) → Bor (List ℕ) → Machine
machine_in registers control register_table predicate_table =
    machine_of registers.now control.now register_table.now predicate_table.now

abbrev pub machine_lent : Lent → Machine
machine_lent lent = machine_in lent.registers lent.control lent.register_table lent.predicate_table

-- the control words of a program counter and a state
abbrev pub control_of : ℕ → State → List ℕ
control_of pc s = pc ∷ s.mvl ∷ s.vl ∷ s.cfg ∷ s.source ∷ s.destination ∷ []

-- six control words are those of the program counter and the state that they hold
abbrev pub ControlBack : List ℕ → Type 0
ControlBack control = length control ≡ 6 → control_of (get_or control 0 0) (state_of control) ≡ control

-- Machines and arrays determine each other: an equation of `machine_of` leaves no word of an array open.
pub record Faithful : Type 0 where
  pub machine : (m : Machine) →
      machine_of m.registers (control_of m.pc m.state) m.register_table m.predicate_table ≡ m
  pub control : (control : List ℕ) → ControlBack control
