-- Demand 1, of the run call.
use Prim.Native.Nat.{ℕ}
use mathlib.Core.Path.{◌≡◌, refl}
use mathlib.Core.Bool.{true}
use Rattle.answers.specs.declared.Answer.{Answer}
use Rattle.walk_pausable.specs.Outcome.{outcome}
use Rattle.walk_pausable.specs.Walk.{walk}
use Rattle.walk_pausable.proofs.Invariant.{walk_keeps}
use Rattle.walk_operations.specs.Context.{pausing}
use Rattle.machine.specs.Shape.{in_shape}
use Rattle.machine.specs.Run.{System, unit, run}
use Rattle.claims_demands.specs.Run.{Sound, RunSound}
use Rattle.claims_demands.proofs.Units.{Walked}
use Rattle.claims_demands.proofs.Preparing.{Refusal}
use Rattle.claims_demands.proofs.Systems.{PlanOf, plan_of, plan_kept, prepare_refusal}
use Rattle.claims_demands.proofs.Runs.{walked, by_preparation}
use Rattle.claims_demands.proofs.Stands.{fault_known, faulted_known}

refusal_sound : (s : System) (a : Answer) → Refusal a → Sound s (outcome a s)
refusal_sound s a r = record { answer = r.listed; value = λ f. r.value; refused = λ e. refl; shape = λ h. h }

walk_sound : (s t : System) → in_shape t.machine ≡ true → (a : Answer) → Walked a → Sound s (outcome a t)
walk_sound s t shape a w =
    record { answer = w.listed; value = w.value; refused = λ e. absurd (w.serves e); shape = λ h. shape }

sound : (word n : ℕ) (s : System) → Sound s (run word n s)
sound word n s =
    by_preparation word n s (Sound s) (λ a e. refusal_sound s a (prepare_refusal word s a e))
    (λ plan e.
    let p = plan_of word s plan e in
    let after = walk pausing (unit plan) n s in
    let kept = walk_keeps pausing (unit plan) (PlanOf word plan) (λ t k. plan_kept word t plan k) n s p in
    walk_sound s after.state kept.shaped after.answer (walked word plan n s p))

pub run_sound : RunSound
run_sound = record { sound = sound; fault = fault_known; faulted = faulted_known }
