-- The run call.
use Rattle.std.specs.Prelude.{ℕ, cond, List}
use Rattle.answers.specs.declared.Answer.{Answer}
use Rattle.answers.specs.declared.Answer.TheVariants.{OutOfShape}
use Rattle.decode.specs.declared.decoded.Decoded.{Decoded}
use Rattle.decode.specs.Decoding.{decoded}
use Rattle.walk_pausable.specs.Outcome.{Outcome, outcome}
use Rattle.walk_pausable.specs.Call.{Prepared, refused, called}
use Rattle.state_word.specs.State.{with_offsets}
use Rattle.walk_operations.specs.declared.position.Position.{Position}
use Rattle.walk_operations.specs.Context.{Context, context, pausing}
use Rattle.walk_handler.specs.Prepare.{Plan, prepared}
use Rattle.walk_handler.specs.Unit.{unit_of}
use Rattle.machine.specs.declared.Machine.{Machine}
use Rattle.machine.specs.Shape.{in_shape}
use Rattle.machine.specs.Update.{with_registers, with_pc, with_state}

-- the machine and the memory that is lent to it
pub record System : Type 0 where
  pub machine : Machine
  pub memory : List ℕ

abbrev pub system : Machine → List ℕ → System
system m memory = record { machine = m; memory = memory }

abbrev pub position_of : Machine → Position
position_of m = record { pc = m.pc; source = m.state.source; destination = m.state.destination }

-- the machine with the registers and the position as given
abbrev pub with_position : Machine → List ℕ → Position → Machine
with_position m registers p =
    with_state (with_pc (with_registers m registers) p.pc) (with_offsets m.state p.source p.destination)

-- what a unit reads and writes of a machine and its memory
abbrev pub context_of : System → Context
context_of s = context s.machine.registers s.memory (position_of s.machine)

abbrev pub with_context : System → Context → System
with_context s c = system (with_position s.machine c.registers c.position) c.memory

-- what a word is under a machine's tables
abbrev pub word_on : ℕ → Machine → Decoded
word_on word m = decoded word m.state.cfg m.register_table m.predicate_table

-- Order for a run: 6, 2, 4, 3, then the allowance, then 5.
unfoldable pub prepare : ℕ → System → Prepared Answer Plan
prepare word s =
    cond (in_shape s.machine)
    (prepared s.machine.state.vl s.machine.registers (word_on word s.machine))
    (refused OutOfShape)

unfoldable pub unit : Plan → System → Outcome Answer System
unit plan s =
    let done = unit_of plan (context_of s) in
    outcome done.answer (with_context s done.state)

unfoldable pub run : ℕ → ℕ → System → Outcome Answer System
run word allowance s = called pausing (prepare word) unit allowance s

-- one unit
abbrev pub step : ℕ → System → Outcome Answer System
step word s = run word 1 s
