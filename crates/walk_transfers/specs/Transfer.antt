-- One unit of a move, a load or a store, as 01's section "Walking" has it; what is moved at a pair, and where a side
-- with zeroing is off, is each kind's own.
use Rattle.std.specs.Prelude.{ℕ, cond, ◌||◌, List}
use Rattle.answers.specs.declared.Answer.{Answer}
use Rattle.walk_pairs.specs.declared.Pair.{Pair}
use Rattle.walk_pairs.specs.declared.Pair.TheVariants.{Found, Zeroed, End}
use Rattle.walk_pairs.specs.Side.{start, next, past}
use Rattle.walk_pairs.specs.Pair.{pair_from}
use Rattle.walk_pausable.specs.Outcome.{Outcome}
use Rattle.walk_operations.specs.declared.position.Fault.{Fault}
use Rattle.walk_operations.specs.declared.position.Position.{Position}
use Rattle.walk_operations.specs.declared.position.Ran.{Ran}
use Rattle.walk_transfers.specs.declared.sides.Sides.{Sides}
use Rattle.walk_operations.specs.Context.{Context, at_offsets, outcome_of, ended, onward, faulted}

-- the registers and the memory that an element leaves, or why its access is refused, with the address
pub data Transferred : Type 0 where
  moved : List ℕ → List ℕ → Transferred
  refused : Fault → ℕ → Transferred

-- where both sides start
unfoldable pub started : Sides → Position → Position
started s p = at_offsets p (start s.source p.source) (start s.destination p.destination)

-- the pair that a unit works at
unfoldable pub pair_of : Sides → Position → Pair
pair_of s position =
    pair_from s.source s.destination s.vl (started s position).source (started s position).destination

-- It ends when a walking side reaches VL, and after the first element where only one is moved.
unfoldable pub after_pair : Sides → ℕ → Position → ℕ → ℕ → Ran
after_pair s bytes position i j =
    cond
    (s.single || past s.source s.vl (next s.source i)
    || past s.destination s.vl (next s.destination j))
    (ended bytes position)
    (onward position (next s.source i) (next s.destination j))

unfoldable pub after_transfer : Sides → ℕ → Context → ℕ → ℕ → Transferred → Outcome Answer Context
after_transfer s bytes c i j (moved registers memory) = outcome_of (after_pair s bytes c.position i j) registers memory
after_transfer s bytes c i j (refused fault address) =
    outcome_of (faulted fault address c.position i j) c.registers c.memory

-- what is moved at a pair of positions
abbrev pub Element : Type 0
Element = Context → ℕ → ℕ → Transferred

-- if either side reaches VL the instruction ends with nothing done
unfoldable pub at_pair : Sides → ℕ → Element → Element → Context → Pair → Outcome Answer Context
at_pair s bytes transfer zero c End = outcome_of (ended bytes c.position) c.registers c.memory
at_pair s bytes transfer zero c (Found i j) = after_transfer s bytes c i j (transfer c i j)
at_pair s bytes transfer zero c (Zeroed i j) = after_transfer s bytes c i j (zero c i j)

-- one unit, of an instruction of some bytes
unfoldable pub transfer_unit : Sides → ℕ → Element → Element → Context → Outcome Answer Context
transfer_unit s bytes transfer zero c = at_pair s bytes transfer zero c (pair_of s c.position)
