-- What a run comes to: a refusal, or the walk of a plan.
use Prim.Native.Nat.{ℕ}
use mathlib.Core.Path.{◌≡◌, refl}
use Rattle.answers.specs.declared.Answer.{Answer}
use Rattle.walk_pausable.specs.Outcome.{Outcome, outcome}
use Rattle.walk_pausable.specs.Walk.{walk}
use Rattle.walk_pausable.specs.Call.{Prepared, refused, ready, begun}
use Rattle.walk_pausable.proofs.Walk.{walk_induction}
use Rattle.walk_pausable.proofs.Call.{called_ready, called_refused}
use Rattle.walk_operations.specs.Context.{pausing}
use Rattle.walk_handler.specs.Prepare.{Plan}
use Rattle.machine.specs.Run.{System, prepare, unit, run}
use Rattle.claims_demands.proofs.Units.{Walked, paused_walked}
use Rattle.claims_demands.proofs.Systems.{PlanOf, plan_kept, sound_on}

pub walked :
    (word : ℕ) (plan : Plan) (n : ℕ) (s : System) → PlanOf word plan s → Walked (walk pausing (unit plan) n s).answer
walked word plan =
    walk_induction pausing (unit plan) (λ n s o. PlanOf word plan s → Walked o.answer)
    (λ s k. paused_walked) (λ n s e k. unit_walked s k) (λ n s o e rest k. rest (plan_kept word s plan k))
  where
    unit_walked : (s : System) → PlanOf word plan s → Walked (unit plan s).answer
    unit_walked s k = unfold unit in (sound_on word s plan k).answer

module _ (word n : ℕ) (s : System) where
  pub run_walk : (plan : Plan) → prepare word s ≡ ready plan → run word n s ≡ walk pausing (unit plan) n s
  unfolding run
  run_walk plan e = called_ready pausing (prepare word) unit n s e

  pub run_refused : (a : Answer) → prepare word s ≡ refused a → run word n s ≡ outcome a s
  unfolding run
  run_refused a e = called_refused pausing (prepare word) unit n s e

  -- a claim about runs, by whether the word was refused
  pub by_preparation :
      (Q : Outcome Answer System → Type 0) → ((a : Answer) → prepare word s ≡ refused a → Q (outcome a s)) →
      ((plan : Plan) → prepare word s ≡ ready plan → Q (walk pausing (unit plan) n s)) → Q (run word n s)
  unfolding run begun
  by_preparation Q refuse go = by (prepare word s) refl
    where
      by : (r : Prepared Answer Plan) → prepare word s ≡ r → Q (begun pausing unit r n s)
      by (refused a) e = refuse a e
      by (ready plan) e = go plan e
