-- Demand 3: a cut makes no difference. And its VL clause.
use Rattle.std.specs.Prelude.{ℕ, ◌≤◌, ◌≡◌, true, List}
use Rattle.answers.specs.declared.Answer.{Answer}
use Rattle.answers.specs.Answer.{number_of}
use Rattle.walk_pausable.specs.Outcome.{Outcome}
use Rattle.walk_pausable.specs.Call.{NextCall, listed, total}
use Rattle.walk_operations.specs.Context.{pausing}
use Rattle.machine.specs.declared.Machine.{Machine}
use Rattle.machine.specs.Shape.{in_shape, Sized}
use Rattle.machine.specs.Run.{System, system, run}
use Rattle.claims_calls.specs.Copy.{Part, Whole, restored}
use Rattle.claims_demands.specs.Premise.{Apart}

-- What may happen between a paused call and the next: nothing, or registers, program counter, tables and state word are
-- copied out by the reading calls and written back by the setting calls into any machine in shape, part by part in any
-- order. Memory is not touched.
pub data Between : Type 0 where
  nothing : Between
  copied : (ps : List Part) → Whole ps → (host : Machine) → Sized host → in_shape host ≡ true → Between

abbrev pub changed : Between → System → System
changed nothing s = s
changed (copied ps whole host sized shaped) s = system (restored ps s.machine host).machine s.memory

-- a list of runs of one word, each but the first made only where the last one paused
abbrev pub runs : ℕ → ℕ → List (NextCall Between) → System → Outcome Answer System
runs word n fs s = listed pausing changed (run word) n fs s

-- any list of allowances equals one call with their sum: answer, address, machine and memory
abbrev pub CutKept : Type 0
CutKept =
    (word : ℕ) (s : System) (n : ℕ) (fs : List (NextCall Between)) → Sized s.machine → Apart word s.machine →
    runs word n fs s ≡ run word (total n fs) s

-- one call allowed VL elements or more never pauses, whatever the machine and its offsets
abbrev pub NeverPauses : Type 0
NeverPauses =
    (word : ℕ) (s : System) (n : ℕ) → s.machine.state.vl ≤ n → number_of (run word n s).answer ≡ 1 → ⊥
