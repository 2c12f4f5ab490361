-- What holds of every unit, whatever it answers: the registers that it leaves, and its answers.
use Prim.Native.Nat.{ℕ, ◌+◌, ◌<◌}
use mathlib.Core.Logic.{inl, inr}
use mathlib.Core.Path.{◌≡◌, refl, sym}
use mathlib.Core.Bool.{true, false, true≢false}
use mathlib.Core.List.{List}
use lib.Dec.{ltb}
use Rattle.answers.specs.declared.Answer.{Answer}
use Rattle.answers.specs.declared.Answer.TheVariants.{Paused}
use Rattle.answers.specs.Answer.{number_of, value_of}
use Rattle.walk_operands.specs.Place.{register_at}
use Rattle.walk_operands.specs.Mask.{is_on}
use Rattle.walk_pausable.specs.Outcome.{Outcome}
use Rattle.walk_operations.specs.declared.position.Fault.{Fault}
use Rattle.walk_operations.specs.declared.position.Fault.TheVariants.{Misaligned, Outside}
use Rattle.walk_operations.specs.declared.position.Position.{Position}
use Rattle.walk_operations.specs.declared.position.Ran.{Ran}
use Rattle.walk_operations.specs.declared.operation.OperationPlan.{OperationPlan}
use Rattle.walk_operations.specs.Context.{Context, ended, faulted}
use Rattle.walk_operations.specs.Operation.{element_of, registers_after, go_on, after_on, position_after, operation_unit}
use Rattle.bits.specs.Lists.{Among}
use Rattle.bits.proofs.Booleans.{by_cond}
use Rattle.claims_demands.specs.Faults.{faults}
use Rattle.claims_demands.specs.Run.{run_answers, refuses}
use Rattle.claims_demands.proofs.RegistersKept.{RegistersKept, unwritten, one_written}

-- an answer of a walk: it refuses nothing, and has no value but a fault's address
pub record Walked (a : Answer) : Type 0 where
  pub listed : Among (number_of a) run_answers
  pub serves : refuses a ≡ true → ⊥
  pub value : faults a ≡ false → value_of a ≡ 0

pub paused_walked : Walked Paused
paused_walked = record { listed = inr (inl refl); serves = λ e. true≢false (sym e); value = λ f. refl }

-- `Writes` says which registers may be written
pub record UnitSound (Writes : ℕ → Type 0) (registers : List ℕ) (o : Outcome Answer Context) : Type 0 where
  pub answer : Walked o.answer
  pub kept : RegistersKept Writes registers o.state.registers

-- a way to come out
abbrev pub RanSound : Ran → Type 0
RanSound ran = Walked ran.answer

module _ (position : Position) where
  pub ended_sound : (bytes : ℕ) → RanSound (ended bytes position)
  ended_sound bytes = record { listed = inl refl; serves = λ e. true≢false (sym e); value = λ f. refl }

  pub faulted_sound : (fault : Fault) (address i j : ℕ) → RanSound (faulted fault address position i j)
  faulted_sound Misaligned address i j = record {
    listed = inr (inr (inr (inr (inr (inr (inr (inl refl)))))));
    serves = λ e. true≢false (sym e);
    value = λ f. absurd (true≢false f);
  }
  faulted_sound Outside address i j = record {
    listed = inr (inr (inr (inr (inr (inl refl)))));
    serves = λ e. true≢false (sym e);
    value = λ f. absurd (true≢false f);
  }

  go_on_sound : (vl i : ℕ) → RanSound (go_on vl position i)
  unfolding go_on
  go_on_sound vl i = by_cond RanSound (ltb (i + 1) vl) (λ e. paused_walked) (λ e. ended_sound 4)

  position_sound : (p : OperationPlan) (i : ℕ) → RanSound (position_after p position i)
  unfolding position_after after_on
  position_sound p i =
      by_cond RanSound (is_on p.mask i)
      (λ e. by_cond RanSound p.destination.vector (λ f. go_on_sound p.vl i) (λ f. ended_sound 4))
      (λ e. go_on_sound p.vl i)

registers_sound :
    (p : OperationPlan) (Writes : ℕ → Type 0) (registers : List ℕ) (i : ℕ) → Writes (register_at p.destination i) →
    RegistersKept Writes registers (registers_after p registers i)
unfolding registers_after
registers_sound p Writes registers i w =
    let to = register_at p.destination i in
    by_cond (RegistersKept Writes registers) (is_on p.mask i)
    (λ e. one_written registers to (element_of p registers i) w)
    (λ e.
    by_cond (RegistersKept Writes registers) p.mask.zeroing (λ f. one_written registers to 0 w)
    (λ f. unwritten registers))

pub operation_sound :
    (p : OperationPlan) (Writes : ℕ → Type 0) (c : Context) → c.position.destination < p.vl →
    ((i : ℕ) → i < p.vl → Writes (register_at p.destination i)) →
    UnitSound Writes c.registers (operation_unit p c)
unfolding operation_unit
operation_sound p Writes c h writes =
    let i = c.position.destination in
    record {
      answer = position_sound c.position p i;
      kept = registers_sound p Writes c.registers i (writes i h);
    }
