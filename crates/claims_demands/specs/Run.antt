-- Demand 1, of the run call.
use Rattle.std.specs.Prelude.{ℕ, ◌<◌, ◌≡◌, Bool, true, false, ◌||◌, List, [], ◌∷◌, eqb, length}
use Rattle.answers.specs.declared.Answer.{Answer}
use Rattle.answers.specs.Answer.{number_of, value_of}
use Rattle.walk_pairs.specs.declared.Pair.{Pair}
use Rattle.walk_pairs.specs.declared.Pair.TheVariants.{Found}
use Rattle.walk_pairs.specs.Pair.{Meets}
use Rattle.walk_pausable.specs.Outcome.{Outcome}
use Rattle.walk_operations.specs.declared.position.Position.{Position}
use Rattle.walk_pausable.specs.Call.{ready}
use Rattle.walk_transfers.specs.Transfer.{pair_of}
use Rattle.walk_handler.specs.Prepare.{Plan, operation, move, load, store}
use Rattle.machine.specs.Shape.{in_shape}
use Rattle.machine.specs.Update.{with_state}
use Rattle.machine.specs.Run.{System, system, position_of, prepare, unit, run}
use Rattle.state_word.specs.State.{with_offsets}
use Rattle.bits.specs.Lists.{Among}
use Rattle.claims_demands.specs.Faults.{faults, Access, AccessAt, FaultedBy}

-- what a run answers
abbrev pub run_answers : List ℕ
run_answers = 0 ∷ 1 ∷ 2 ∷ 3 ∷ 4 ∷ 5 ∷ 6 ∷ 9 ∷ []

-- answers 2, 3, 4 and 6
abbrev pub refuses : Answer → Bool
refuses a = eqb (number_of a) 2 || eqb (number_of a) 3 || eqb (number_of a) 4 || eqb (number_of a) 6

-- the offsets as given, and nothing else changed
abbrev pub system_at_offsets : System → ℕ → ℕ → System
system_at_offsets s i j = system (with_state s.machine (with_offsets s.machine.state i j)) s.memory

-- the pair of positions that a unit works at; an operation has one position
abbrev pub pair_at : Plan → Position → Pair
pair_at (operation p) position = Found position.destination position.destination
pair_at (move s) position = pair_of s position
pair_at (load p) position = pair_of p.sides position
pair_at (store p) position = pair_of p.sides position

-- A memory fault leaves exactly the elements before it: fewer units than allowed paused, and what they left stays as it
-- is, with the offsets at the pair of positions that failed. The access of this pair is why it was answered.
pub record StandsAtFault (word n : ℕ) (s : System) : Type 0 where
  pub units : ℕ
  pub fewer : units < n
  pub before : number_of (run word units s).answer ≡ 1
  pub plan : Plan
  pub planned : prepare word s ≡ ready plan
  pub last : unit plan (run word units s).state ≡ run word n s
  pub source : ℕ
  pub destination : ℕ
  pub pair : Meets (pair_at plan (position_of (run word units s).state.machine)) source destination
  pub state : (run word n s).state ≡ system_at_offsets (run word units s).state source destination
  pub access : Access
  pub accessed :
      AccessAt plan (run word units s).state.machine.registers
      (pair_at plan (position_of (run word units s).state.machine)) access
  pub why : FaultedBy (length (run word units s).state.memory) access (run word n s).answer

-- what a run from s answers and leaves, o
pub record Sound (s : System) (o : Outcome Answer System) : Type 0 where
  -- the answer is one of the table's for a run, and the returned address is 0 except with 5 and 9
  pub answer : Among (number_of o.answer) run_answers
  pub value : faults o.answer ≡ false → value_of o.answer ≡ 0
  -- a refusal leaves machine and memory as they were
  pub refused : refuses o.answer ≡ true → o.state ≡ s
  -- a machine in shape stays in shape
  pub shape : in_shape s.machine ≡ true → in_shape o.state.machine ≡ true

pub record RunSound : Type 0 where
  pub sound : (word n : ℕ) (s : System) → Sound s (run word n s)
  pub fault : (word n : ℕ) (s : System) → faults (run word n s).answer ≡ true → StandsAtFault word n s
  -- no access is refused for another reason, and none that has one is served
  pub faulted :
      (plan : Plan) (s : System) (a : Access) →
      AccessAt plan s.machine.registers (pair_at plan (position_of s.machine)) a →
      FaultedBy (length s.memory) a (unit plan s).answer
