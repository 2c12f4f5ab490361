-- A unit on the machine and its memory.
use Prim.Native.Nat.{ℕ}
use mathlib.Core.Logic.{inl, inr}
use mathlib.Core.Path.{◌≡◌, refl}
use mathlib.Core.Bool.{Bool, true, false, cond}
use mathlib.Core.List.{List}
use lib.ListN.{get_or}
use native.Mathlib.Omega.{arith}
use Rattle.answers.specs.declared.Answer.{Answer}
use Rattle.answers.specs.declared.Answer.TheVariants.{OutOfShape}
use Rattle.walk_pausable.specs.Call.{refused, ready}
use Rattle.state_word.proofs.States as state
use Rattle.state_word.proofs.States.{bounds}
use Rattle.walk_transfers.specs.SidesReady.{Within}
use Rattle.walk_operations.specs.Context.{Context}
use Rattle.walk_handler.specs.Prepare.{Plan, prepared}
use Rattle.walk_handler.specs.Unit.{unit_of}
use Rattle.machine.specs.declared.Machine.{Machine}
use Rattle.machine.specs.Shape.{in_shape}
use Rattle.machine.specs.Run.{System, context_of, with_position, word_on, prepare, unit}
use Rattle.walk_handler.proofs.Offsets.{plan_within}
use Rattle.machine.proofs.Handled.{position_within}
use Rattle.machine.proofs.Shapes.{parts, in_shape-parts}
use Rattle.claims_demands.specs.Premise.{MayWrite}
use Rattle.claims_demands.proofs.Units.{UnitSound}
use Rattle.claims_demands.proofs.Preparing.{Refusal, refusal, prepared_refusal}
use Rattle.claims_demands.proofs.PlanSound.{unit_sound}

-- the machine that a sound unit leaves is in shape
pub position_kept :
    (m : Machine) → in_shape m ≡ true → (c : Context) → Within m.state.vl c.position →
    get_or c.registers 0 0 ≡ 0 → in_shape (with_position m c.registers c.position) ≡ true
position_kept m h c w z =
    let p = parts m h in
    let b = bounds m.state p.state in
    in_shape-parts (with_position m c.registers c.position) (record {
      state =
          state.in_shape (with_position m c.registers c.position).state (record {
            mvl_low = b.mvl_low;
            mvl_high = b.mvl_high;
            vl_low = b.vl_low;
            vl_high = b.vl_high;
            cfg_high = b.cfg_high;
            source_high = w.source;
            destination_high = w.destination;
          });
      zero_register = z;
      tables = p.tables;
    })

-- a plan that was prepared for a word, whatever the registers were then
pub record PlanOf (word : ℕ) (plan : Plan) (s : System) : Type 0 where
  pub shaped : in_shape s.machine ≡ true
  pub registers : List ℕ
  pub planned : prepared s.machine.state.vl registers (word_on word s.machine) ≡ ready plan

module _ (word : ℕ) (s : System) where
  pub plan_of : (plan : Plan) → prepare word s ≡ ready plan → PlanOf word plan s
  unfolding prepare
  plan_of plan = by (in_shape s.machine) refl
    where
      by :
          (t : Bool) → in_shape s.machine ≡ t →
          cond t (prepared s.machine.state.vl s.machine.registers (word_on word s.machine))
          (refused OutOfShape) ≡ ready plan → PlanOf word plan s
      by true h e = record { shaped = h; registers = s.machine.registers; planned = e }
      by false h e = let z : ◌≡◌ {A = ℕ} 0 1 = cc in absurd (omega arith)

  pub prepare_refusal : (a : Answer) → prepare word s ≡ refused a → Refusal a
  unfolding prepare
  prepare_refusal a = by (in_shape s.machine)
    where
      by :
          (t : Bool) →
          cond t (prepared s.machine.state.vl s.machine.registers (word_on word s.machine))
          (refused OutOfShape) ≡ refused a → Refusal a
      by true = prepared_refusal s.machine.state.vl s.machine.registers (word_on word s.machine) a
      by false = λ e. let f : a ≡ OutOfShape = cc in rw f (refusal OutOfShape (inr (inr (inr (inr (inr (inr (inl refl))))))) refl)

  pub sound_on :
      (plan : Plan) → PlanOf word plan s →
      UnitSound (MayWrite s.machine.state.vl (word_on word s.machine)) s.machine.registers
      (unit_of plan (context_of s))
  sound_on plan k =
      unit_sound s.machine.state.vl k.registers (context_of s) (position_within s.machine k.shaped)
      (word_on word s.machine) plan k.planned

  -- a unit keeps the machine in shape, and the plan is still one of the word
  pub plan_kept : (plan : Plan) → PlanOf word plan s → PlanOf word plan (unit plan s).state
  unfolding unit
  plan_kept plan k =
      let u = sound_on plan k in
      record {
        shaped =
            position_kept s.machine k.shaped (unit_of plan (context_of s)).state
            (plan_within s.machine.state.vl k.registers (context_of s) (position_within s.machine k.shaped)
            (word_on word s.machine) plan k.planned)
            (u.kept.zero_register (parts s.machine k.shaped).zero_register);
        registers = k.registers;
        planned = k.planned;
      }
