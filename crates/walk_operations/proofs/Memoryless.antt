-- Work that doesn't touch memory: what it does with one memory it does with every other.
use Rattle.std.proofs.Common.{◌≡◌, ℕ, zero, suc, Bool, true, false, List, refl, sym, ◌∙◌, ap}
use Rattle.answers.specs.Answer.{pauses}
use Rattle.answers.specs.declared.Answer.{Answer}
use Rattle.walk_pausable.specs.Outcome.{Outcome}
use Rattle.walk_pausable.specs.Walk.{walk}
use Rattle.walk_operations.specs.declared.position.Position.{Position}
use Rattle.walk_operations.specs.declared.position.Ran.{Ran}
use Rattle.walk_operations.specs.declared.operation.OperationPlan.{OperationPlan}
use Rattle.walk_operations.specs.Context.{Context, context, outcome_of, pausing, paused, WithAnyMemory}
use Rattle.walk_operations.specs.Operation.{operation_unit, position_after, registers_after}

-- how it runs and which registers it leaves, whatever the memory
pub record Runs (work : Context → Outcome Answer Context) (registers : List ℕ) (position : Position) : Type 0 where
  pub ran : Ran
  pub after : List ℕ
  pub same : WithAnyMemory work registers position ran after

abbrev pub Memoryless : (Context → Outcome Answer Context) → Type 0
Memoryless work = (registers : List ℕ) (position : Position) → Runs work registers position

pub walk_memoryless : {unit : Context → Outcome Answer Context} → Memoryless unit → (n : ℕ) → Memoryless (walk pausing unit n)
unfolding walk
walk_memoryless {unit} one zero registers position =
    record { ran = paused position; after = registers; same = λ memory. refl }
walk_memoryless {unit} one (suc n) registers position =
    by (pauses first.ran.answer) refl (walk_memoryless one n first.after first.ran.position)
  where
    first : Runs unit registers position
    first = one registers position

    by :
        (t : Bool) → pauses first.ran.answer ≡ t → Runs (walk pausing unit n) first.after first.ran.position →
        Runs (walk pausing unit (suc n)) registers position
    by true e later =
        record { ran = later.ran; after = later.after; same = λ memory. later.same memory ∙ rw (← first.same memory, e) }
    by false e later =
        record { ran = first.ran; after = first.after; same = λ memory. rw (← first.same memory, e) }

-- what was seen with one memory holds with any
pub with_any :
    {work : Context → Outcome Answer Context} → Memoryless work → {registers after one left : List ℕ}
    {position : Position} {ran : Ran} →
    outcome_of ran after left ≡ work (context registers one position) → WithAnyMemory work registers position ran after
with_any less {registers} {after} {one} {left} {position} {ran} e memory =
    let runs = less registers position in
    let same = e ∙ sym (runs.same one) in
    let ran_same : ran ≡ runs.ran = ap (λ o. record { answer = o.answer; position = o.state.position }) same in
    let after_same : after ≡ runs.after = ap (λ o. o.state.registers) same in
    rw (ran_same, after_same) (runs.same memory)

pub operation_memoryless : (p : OperationPlan) → Memoryless (operation_unit p)
unfolding operation_unit
operation_memoryless p registers position = record {
  ran = position_after p position position.destination;
  after = registers_after p registers position.destination;
  same = λ memory. refl;
}
