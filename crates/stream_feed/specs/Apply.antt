-- What a record of each kind does, and what is printed of it.
use Rattle.std.specs.Prelude.{ℕ, Bool, true, false, cond, List, []}
use Rattle.answers.specs.declared.Answer.{Answer}
use Rattle.answers.specs.declared.Answer.TheVariants as answer
use Rattle.answers.specs.Answer.{number_of, accepts}
use Rattle.std.specs.Prelude.{⊤, Result, Ok, Err}
use Rattle.memory.specs.declared.access.Outside.{Outside}
use Rattle.memory.specs.Transfer.{store_answer, stored}
use Rattle.walk_pausable.specs.Outcome.{Outcome, outcome}
use Rattle.machine.specs.declared.Reply.{Reply}
use Rattle.machine.specs.Setting.{set_register_entry, set_predicate_entry, set_state_word, set_register}
use Rattle.machine.specs.Run.{System, system, run}
use Rattle.stream_records.specs.declared.record.Record.{Record}
use Rattle.stream_records.specs.declared.record.Record.TheVariants.{RegisterEntry, PredicateEntry, StateWord}
use Rattle.stream_records.specs.declared.record.Record.TheVariants.{Register, Run, Memory}
use Rattle.stream_text.specs.Lines.{run_line, refused_line}

-- a setting call leaves the memory as it is
abbrev pub replied : Reply → List ℕ → Outcome Answer System
replied r memory = outcome r.answer (system r.machine memory)

-- a memory record not wholly inside is refused with 5
abbrev pub store_answered : Result ⊤ Outside → ℕ → Answer
store_answered (Ok done) address = answer.Done 0
store_answered (Err outside) address = answer.Outside address

-- 8 bytes of memory
abbrev pub storing : System → ℕ → ℕ → Outcome Answer System
storing s address value =
    outcome (store_answered (store_answer s.memory address 8) address)
    (system s.machine (stored s.memory address 8 value))

-- the answer, and the machine and the memory that are left
unfoldable pub applied : Record → System → Outcome Answer System
applied (RegisterEntry i entry) s = replied (set_register_entry s.machine i entry) s.memory
applied (PredicateEntry i entry) s = replied (set_predicate_entry s.machine i entry) s.memory
applied (StateWord word) s = replied (set_state_word s.machine word) s.memory
applied (Register i value) s = replied (set_register s.machine i value) s.memory
applied (Run word allowance) s = run word allowance s
applied (Memory address value) s = storing s address value

-- A refused setting prints "refused" and the number; an accepted one nothing.
unfoldable pub setting_text : Answer → List ℕ
setting_text a = cond (accepts a) [] (refused_line (number_of a))

abbrev pub is_run : Record → Bool
is_run (RegisterEntry i entry) = false
is_run (PredicateEntry i entry) = false
is_run (StateWord word) = false
is_run (Register i value) = false
is_run (Run word allowance) = true
is_run (Memory address value) = false

-- For a run answer, program counter, source and destination offset, whatever the answer.
unfoldable pub report_text : Bool → Answer → ℕ → ℕ → ℕ → List ℕ
report_text is_run a pc source destination = cond is_run (run_line (number_of a) pc source destination) (setting_text a)

-- the same of what a call replied
abbrev pub reported : Bool → Reply → List ℕ
reported is_run r =
    let m = r.machine in
    report_text is_run r.answer m.pc m.state.source m.state.destination

-- the text of a record, from what it answered and left
abbrev pub printed : Record → Outcome Answer System → List ℕ
printed r o =
    let m = o.state.machine in
    report_text (is_run r) o.answer m.pc m.state.source m.state.destination
