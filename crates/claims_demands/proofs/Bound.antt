-- The VL clause of demand 3: VL units are enough.
use Prim.Native.Nat.{ℕ, ◌-◌, ◌<◌}
use mathlib.Core.Path.{◌≡◌, refl, sym, ◌∙◌}
use mathlib.Core.Bool.{true, true≢false}
use mathlib.Core.List.{List}
use native.Mathlib.Omega.{arith}
use borrow.Author.Tests.{eq-eqb, not-false}
use Rattle.answers.specs.declared.Answer.{Answer}
use Rattle.answers.specs.Answer.{number_of, pauses}
use Rattle.decode.specs.declared.decoded.Decoded.{Decoded}
use Rattle.decode.specs.declared.decoded.Decoded.TheVariants.{Operation, Move, Load, Store, Unknown}
use Rattle.walk_pausable.specs.Outcome.{Paused}
use Rattle.walk_pausable.specs.Call.{ready}
use Rattle.walk_pausable.specs.Bound.{Bounded}
use Rattle.walk_pausable.proofs.Bound.{call_bound}
use Rattle.walk_operations.specs.declared.position.Position.{Position}
use Rattle.walk_operations.specs.Context.{Context, pausing}
use Rattle.walk_transfers.specs.SidesReady.{Within}
use Rattle.walk_transfers.specs.Moving.{move_unit, move_element, zero_element}
use Rattle.walk_accesses.specs.Loading.{load_unit, load_element}
use Rattle.walk_accesses.specs.Storing.{store_unit, store_element, store_zero}
use Rattle.walk_plans.specs.Plan.{operation_plan, move_plan, load_plan, store_plan}
use Rattle.walk_handler.specs.Prepare.{Plan, operation, move, load, store, prepared}
use Rattle.walk_handler.specs.Unit.{unit_of}
use Rattle.walk_handler.proofs.Served.{served_plan}
use Rattle.machine.proofs.Handled.{position_within}
use Rattle.machine.specs.Run.{System, context_of, position_of, word_on, unit, run}
use Rattle.claims_demands.specs.Cuts.{NeverPauses}
use Rattle.bits.proofs.Booleans.{by_cond}
use Rattle.claims_demands.proofs.Systems.{PlanOf, plan_of, plan_kept}
use Rattle.claims_demands.proofs.Advance.{counted, operation_rises, transfer_rises}
use Rattle.claims_demands.proofs.Cuts.{no_refusal_pauses}

-- the position that a plan counts by
abbrev counted_by : Plan → Position → ℕ
counted_by (operation p) position = position.destination
counted_by (move s) position = counted s position
counted_by (load p) position = counted p.sides position
counted_by (store p) position = counted p.sides position

counted_within : (vl : ℕ) (position : Position) → Within vl position → (plan : Plan) → counted_by plan position < vl
counted_within vl position w (operation p) = w.destination
counted_within vl position w (move s) = by_cond (λ x. x < vl) s.source.walks (λ e. w.source) (λ e. w.destination)
counted_within vl position w (load p) =
    by_cond (λ x. x < vl) p.sides.source.walks (λ e. w.source) (λ e. w.destination)
counted_within vl position w (store p) =
    by_cond (λ x. x < vl) p.sides.source.walks (λ e. w.source) (λ e. w.destination)

module _ (vl : ℕ) (registers : List ℕ) (c : Context) where
  unit_rises :
      (word : Decoded) (plan : Plan) → prepared vl registers word ≡ ready plan → Paused pausing (unit_of plan c) →
      counted_by plan c.position < counted_by plan (unit_of plan c).state.position
  unfolding prepared
  unit_rises (Operation w) plan e =
      rw (served_plan vl (Operation w) (operation (operation_plan vl registers w)) plan e)
      (operation_rises (operation_plan vl registers w) c)
  unit_rises (Move w) plan e =
      rw (served_plan vl (Move w) (move (move_plan vl registers w)) plan e)
      (unfold move_unit in
      transfer_rises (move_plan vl registers w) (unfold move_plan in λ single still. not-false _ single) 2
      (move_element (move_plan vl registers w)) (zero_element (move_plan vl registers w)) c)
  unit_rises (Load w) plan e =
      rw (served_plan vl (Load w) (load (load_plan vl registers w)) plan e)
      (unfold load_unit in
      transfer_rises (load_plan vl registers w).sides (unfold load_plan in λ single still. absurd (true≢false still)) 4
      (load_element (load_plan vl registers w)) (zero_element (load_plan vl registers w).sides) c)
  unit_rises (Store w) plan e =
      rw (served_plan vl (Store w) (store (store_plan vl registers w)) plan e)
      (unfold store_unit in
      transfer_rises (store_plan vl registers w).sides (unfold store_plan in λ single still. refl) 4
      (store_element (store_plan vl registers w)) (store_zero (store_plan vl registers w)) c)
  unit_rises Unknown plan e = let z : ◌≡◌ {A = ℕ} 0 1 = cc in absurd (omega arith)

-- the positions that are left
abbrev measure : Plan → System → ℕ
measure plan s = s.machine.state.vl - counted_by plan (position_of s.machine)

module _ (word : ℕ) (plan : Plan) where
  below : (s : System) → PlanOf word plan s → counted_by plan (position_of s.machine) < s.machine.state.vl
  below s k =
      counted_within s.machine.state.vl (position_of s.machine) (position_within s.machine k.shaped) plan

  falls :
      (s : System) → PlanOf word plan s → Paused pausing (unit plan s) →
      measure plan (unit plan s).state < measure plan s
  unfolding unit
  falls s k q =
      let on = word_on word s.machine in
      omega (arith, unit_rises s.machine.state.vl k.registers (context_of s) on plan k.planned q, below s k)

  bounded : Bounded pausing (unit plan) (PlanOf word plan) (measure plan)
  bounded = record {
    positive = λ s k. omega (arith, below s k);
    kept = λ s k q. plan_kept word s plan k;
    falls = falls;
  }

is_pause : (a : Answer) → number_of a ≡ 1 → pauses a ≡ true
unfolding pauses
is_pause a e = eq-eqb (number_of a) 1 e

pub never_pauses : NeverPauses
unfolding run
never_pauses word s n enough one =
    true≢false
    (sym (is_pause _ one)
    ∙ call_bound (no_refusal_pauses word) (bounded word) n s (λ plan e. (plan_of word s plan e, omega (arith, enough))))
