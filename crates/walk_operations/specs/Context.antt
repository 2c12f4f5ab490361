-- What a walk reads and writes, and how it leaves it.
use Rattle.std.specs.Prelude.{◌≡◌, ℕ, ◌+◌, ◌%◌, ◌^◌, true, List, refl}
use Rattle.answers.specs.declared.Answer.{Answer}
use Rattle.answers.specs.declared.Answer.TheVariants.{Done, Paused, Misaligned, Outside}
use Rattle.answers.specs.Answer.{pauses}
use Rattle.walk_pausable.specs.Outcome.{Pausing, Outcome, outcome}
use Rattle.walk_operations.specs.declared.position.Fault.{Fault}
use Rattle.walk_operations.specs.declared.position.Fault.TheVariants as fault
use Rattle.walk_operations.specs.declared.position.Position.{Position}
use Rattle.walk_operations.specs.declared.position.Ran.{Ran}

-- registers, memory, program counter and the two offsets
pub record Context : Type 0 where
  pub registers : List ℕ
  pub memory : List ℕ
  pub position : Position

abbrev pub context : List ℕ → List ℕ → Position → Context
context registers memory position = record { registers = registers; memory = memory; position = position }

-- the offsets as given
abbrev pub at_offsets : Position → ℕ → ℕ → Position
at_offsets p source destination = record { pc = p.pc; source = source; destination = destination }

-- answer 1 is the pause
pub pause_pauses : pauses Paused ≡ true
unfolding pauses
pause_pauses = refl

abbrev pub pausing : Pausing Answer
pausing = record { paused = pauses; pause = Paused; pauses = pause_pauses }

-- how a walk ran, with the registers and the memory that it left
abbrev pub outcome_of : Ran → List ℕ → List ℕ → Outcome Answer Context
outcome_of ran registers memory = outcome ran.answer (context registers memory ran.position)

-- work that doesn't touch memory: whatever the memory, it ran so and left these registers
abbrev pub WithAnyMemory : (Context → Outcome Answer Context) → List ℕ → Position → Ran → List ℕ → Type 0
WithAnyMemory work registers position ran after =
    (memory : List ℕ) → outcome_of ran after memory ≡ work (context registers memory position)

-- At the end both offsets are 0 and the program counter has gone up by the bytes of the instruction.
abbrev pub ended : ℕ → Position → Ran
ended bytes p =
    record { answer = Done 0; position = record { pc = (p.pc + bytes) % 2 ^ 64; source = 0; destination = 0 } }

-- an instruction that hasn't moved
abbrev pub paused : Position → Ran
paused p = record { answer = Paused; position = p }

-- an instruction that goes on
abbrev pub onward : Position → ℕ → ℕ → Ran
onward p source destination = record { answer = Paused; position = at_offsets p source destination }

-- both memory faults give the address of the access
abbrev pub fault_answer : Fault → ℕ → Answer
fault_answer fault.Misaligned address = Misaligned address
fault_answer fault.Outside address = Outside address

-- they leave the offsets at the pair
abbrev pub faulted : Fault → ℕ → Position → ℕ → ℕ → Ran
faulted fault address p source destination =
    record { answer = fault_answer fault address; position = at_offsets p source destination }

-- a unit on a memory that is not the one lent: it leaves the one lent as it is
abbrev pub reading : List ℕ → (Context → Outcome Answer Context) → Context → Outcome Answer Context
reading bytes unit c =
    let o = unit (context c.registers bytes c.position) in
    outcome o.answer (context o.state.registers c.memory o.state.position)
