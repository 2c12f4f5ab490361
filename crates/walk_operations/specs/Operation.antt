-- One position of an operation, as 01's section "Walking" has it.
use Rattle.std.specs.Prelude.{ℕ, ◌+◌, Bool, cond, List, nat_lt, slice_index}
use Rattle.answers.specs.declared.Answer.{Answer}
use Rattle.registers.specs.Written.{written}
use Rattle.compute.specs.Compute.{computed}
use Rattle.walk_operands.specs.Place.{register_at}
use Rattle.walk_operands.specs.Mask.{is_on}
use Rattle.walk_pausable.specs.Outcome.{Outcome}
use Rattle.walk_operations.specs.declared.position.Position.{Position}
use Rattle.walk_operations.specs.declared.position.Ran.{Ran}
use Rattle.walk_operations.specs.declared.operation.SecondPlace.{SecondPlace}
use Rattle.walk_operations.specs.declared.operation.SecondPlace.TheVariants.{Register, Immediate}
use Rattle.walk_operations.specs.declared.operation.OperationPlan.{OperationPlan}
use Rattle.walk_operations.specs.Context.{Context, outcome_of, ended, onward}

abbrev pub second_at : SecondPlace → List ℕ → ℕ → ℕ
second_at (Register p) registers i = slice_index registers (register_at p i)
second_at (Immediate value) registers i = value

-- what position i computes
unfoldable pub element_of : OperationPlan → List ℕ → ℕ → ℕ
element_of p registers i =
    computed p.operator (slice_index registers (register_at p.first i)) (second_at p.second registers i)

-- a value written to the destination's register of position i
abbrev pub put_at : OperationPlan → List ℕ → ℕ → ℕ → List ℕ
put_at p registers i value = written registers (register_at p.destination i) value

-- The registers that position i leaves. On: compute and write. Off: write 0 when zeroing is set, otherwise nothing.
unfoldable pub registers_after : OperationPlan → List ℕ → ℕ → List ℕ
registers_after p registers i =
    cond (is_on p.mask i)
    (put_at p registers i (element_of p registers i))
    (cond p.mask.zeroing (put_at p registers i 0) registers)

-- Then go to i + 1; at VL it ends. Both offsets hold the next position.
unfoldable pub go_on : ℕ → Position → ℕ → Ran
go_on vl position i = cond (nat_lt (i + 1) vl) (onward position (i + 1) (i + 1)) (ended 4 position)

-- after a position that is on, a scalar destination ends the instruction
unfoldable pub after_on : ℕ → Bool → Position → ℕ → Ran
after_on vl vector position i = cond vector (go_on vl position i) (ended 4 position)

-- where the instruction stands after position i
unfoldable pub position_after : OperationPlan → Position → ℕ → Ran
position_after p position i =
    cond (is_on p.mask i) (after_on p.vl p.destination.vector position i) (go_on p.vl position i)

-- Position i is the destination offset.
unfoldable pub operation_unit : OperationPlan → Context → Outcome Answer Context
operation_unit p c =
    let i = c.position.destination in
    outcome_of (position_after p c.position i) (registers_after p c.registers i) c.memory
