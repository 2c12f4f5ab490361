-- A unit leaves both offsets below VL, whatever it answers, and so does a run.
use Prim.Native.Nat.{ℕ, ◌+◌, ◌<◌}
use mathlib.Core.Path.{◌≡◌, refl, ap}
use mathlib.Core.List.{List}
use native.Mathlib.Omega.{arith}
use borrow.Author.Tests.{ltb-true}
use lib.Dec.{ltb}
use Rattle.answers.specs.declared.Answer.{Answer}
use Rattle.bits.proofs.Booleans.{by_cond}
use Rattle.decode.specs.declared.decoded.Decoded.{Decoded}
use Rattle.decode.specs.declared.decoded.Decoded.TheVariants.{Operation, Move, Load, Store, Unknown}
use Rattle.walk_operands.specs.Mask.{is_on}
use Rattle.walk_pausable.specs.Outcome.{Outcome}
use Rattle.walk_pausable.specs.Call.{Prepared, refused, ready, begun}
use Rattle.walk_pausable.proofs.Invariant.{walk_keeps}
use Rattle.walk_operations.specs.declared.position.Position.{Position}
use Rattle.walk_operations.specs.declared.position.Ran.{Ran}
use Rattle.walk_operations.specs.declared.operation.OperationPlan.{OperationPlan}
use Rattle.walk_operations.specs.Context.{Context, outcome_of, ended, pausing}
use Rattle.walk_operations.specs.Operation.{go_on, after_on, position_after, operation_unit}
use Rattle.walk_transfers.specs.SidesReady.{Within}
use Rattle.walk_transfers.specs.Moving.{move_unit}
use Rattle.walk_transfers.proofs.TransferLaws.{unit_kept}
use Rattle.walk_accesses.specs.Loading.{load_unit}
use Rattle.walk_accesses.specs.Storing.{store_unit}
use Rattle.walk_plans.specs.Plan.{operation_plan, move_plan, load_plan, store_plan}
use Rattle.walk_handler.specs.Prepare.{Plan, operation, move, load, store, prepared}
use Rattle.walk_handler.specs.Unit.{unit_of, handled}
use Rattle.walk_handler.proofs.Served.{served_plan}

module _ (vl : ℕ) (position : Position) (i : ℕ) (h : i < vl) where
  abbrev LeftWithin : Ran → Type 0
  LeftWithin r = Within vl r.position

  ended_within : (bytes : ℕ) → LeftWithin (ended bytes position)
  ended_within bytes = let least : 0 < vl = omega arith in record { source = least; destination = least }

  go_on_within : LeftWithin (go_on vl position i)
  unfolding go_on
  go_on_within =
      by_cond LeftWithin (ltb (i + 1) vl)
      (λ e. let l = ltb-true (i + 1) vl e in record { source = l; destination = l }) (λ e. ended_within 4)

operation_within :
    (p : OperationPlan) (c : Context) → Within p.vl c.position →
    Within p.vl (operation_unit p c).state.position
unfolding operation_unit position_after after_on
operation_within p c w =
    let i = c.position.destination in
    let h = w.destination in
    let after = go_on_within p.vl c.position i h in
    by_cond (LeftWithin p.vl c.position i h) (is_on p.mask i)
    (λ e.
    by_cond (LeftWithin p.vl c.position i h) p.destination.vector (λ f. after)
    (λ f. ended_within p.vl c.position i h 4))
    (λ e. after)

module _ (vl : ℕ) (registers : List ℕ) (c : Context) (w : Within vl c.position) where
  pub plan_within :
      (word : Decoded) (plan : Plan) → prepared vl registers word ≡ ready plan →
      Within vl (unit_of plan c).state.position
  unfolding prepared
  plan_within (Operation o) plan e =
      rw (served_plan vl (Operation o) (operation (operation_plan vl registers o)) plan e)
      (unfold operation_plan in operation_within (operation_plan vl registers o) c w)
  plan_within (Move m) plan e =
      rw (served_plan vl (Move m) (move (move_plan vl registers m)) plan e)
      (unfold move_plan move_unit in (unit_kept (move_plan vl registers m) 2 _ _ c w _ refl).within)
  plan_within (Load l) plan e =
      rw (served_plan vl (Load l) (load (load_plan vl registers l)) plan e)
      (unfold load_plan load_unit in (unit_kept (load_plan vl registers l).sides 4 _ _ c w _ refl).within)
  plan_within (Store s) plan e =
      rw (served_plan vl (Store s) (store (store_plan vl registers s)) plan e)
      (unfold store_plan store_unit in (unit_kept (store_plan vl registers s).sides 4 _ _ c w _ refl).within)
  plan_within Unknown plan e = let z : ◌≡◌ {A = ℕ} 0 1 = cc in absurd (omega arith)

pub handled_within :
    (vl : ℕ) (word : Decoded) (n : ℕ) (c : Context) → Within vl c.position →
    Within vl (handled vl word n c).state.position
unfolding handled begun
handled_within vl word n c w = by (prepared vl c.registers word) refl
  where
    by :
        (r : Prepared Answer Plan) → prepared vl c.registers word ≡ r →
        Within vl (begun pausing unit_of r n c).state.position
    by (refused a) e = w
    by (ready plan) e =
        walk_keeps pausing (unit_of plan) (λ (d : Context). Within vl d.position)
        (λ d v. plan_within vl c.registers d v word plan e) n c w

-- the same of what the code returns
pub ran_within :
    (vl : ℕ) (word : Decoded) (n : ℕ) (c : Context) (ran : Ran) (registers memory : List ℕ) → Within vl c.position →
    outcome_of ran registers memory ≡ handled vl word n c → Within vl ran.position
ran_within vl word n c ran registers memory w e =
    rw (ap (λ (o : Outcome Answer Context). o.state.position) e) (handled_within vl word n c w)
