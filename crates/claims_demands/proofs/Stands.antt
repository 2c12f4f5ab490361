-- A fault stands at the pair that failed, after the units before it.
use Prim.Native.Nat.{ℕ}
use mathlib.Core.Path.{◌≡◌, refl, sym, ◌∙◌, ap}
use mathlib.Core.Bool.{true, false, true≢false}
use lib.ListN.{length}
use borrow.Author.Tests.{eqb-true, ne_eqb}
use Rattle.answers.specs.declared.Answer.{Answer}
use Rattle.answers.specs.Answer.{number_of, pauses}
use Rattle.walk_pausable.specs.Outcome.{Outcome}
use Rattle.walk_pausable.specs.Walk.{walk}
use Rattle.walk_pausable.specs.Call.{Prepared, refused, ready}
use Rattle.walk_pausable.specs.Ending.{EndsAfter}
use Rattle.walk_pausable.proofs.Ending.{walk_ending}
use Rattle.walk_operations.specs.Context.{context, at_offsets, pausing}
use Rattle.walk_handler.specs.Prepare.{Plan}
use Rattle.walk_handler.specs.Unit.{unit_of}
use Rattle.machine.specs.Run.{System, context_of, position_of, prepare, unit, run}
use Rattle.claims_demands.specs.Faults.{faults, Access, AccessAt, FaultedBy}
use Rattle.claims_demands.specs.Run.{system_at_offsets, pair_at, StandsAtFault}
use Rattle.claims_demands.proofs.Systems.{prepare_refusal}
use Rattle.claims_demands.proofs.Faults.{AtFault, unit_fault}
use Rattle.claims_demands.proofs.UnitAccesses.{unit_faulted_by}
use Rattle.claims_demands.proofs.Runs.{run_walk, run_refused}

is_paused : (a : Answer) → pauses a ≡ true → number_of a ≡ 1
unfolding pauses
is_paused a e = eqb-true (number_of a) 1 e

fault_ends : (a : Answer) → faults a ≡ true → pauses a ≡ false
unfolding pauses
fault_ends a f = ne_eqb (number_of a) 1 (λ e. true≢false (sym f ∙ rw e))

-- a unit that faults, on the machine and its memory
fault_at :
    (plan : Plan) (s : System) → faults (unit plan s).answer ≡ true →
    AtFault plan (context_of s) (unit_of plan (context_of s))
unfolding unit
fault_at plan s = unit_fault plan (context_of s)

pub faulted_known :
    (plan : Plan) (s : System) (a : Access) →
    AccessAt plan s.machine.registers (pair_at plan (position_of s.machine)) a →
    FaultedBy (length s.memory) a (unit plan s).answer
unfolding unit
faulted_known plan s a = unit_faulted_by (context_of s) a plan

why_answered :
    (plan : Plan) (s : System) (o : Outcome Answer System) (a : Access) → unit plan s ≡ o →
    FaultedBy (length s.memory) a (unit_of plan (context_of s)).answer →
    FaultedBy (length s.memory) a o.answer
unfolding unit
why_answered plan s o a e why = rw (← e) why

stands_at :
    (plan : Plan) (s : System) (i j : ℕ) →
    (unit_of plan (context_of s)).state
    ≡ context s.machine.registers s.memory (at_offsets (position_of s.machine) i j) →
    (unit plan s).state ≡ system_at_offsets s i j
unfolding unit
stands_at plan s i j e = rw e

-- by the unit at which the walk ended
stands_after :
    (word n : ℕ) (s : System) (plan : Plan) → prepare word s ≡ ready plan →
    EndsAfter pausing (unit plan) n s (walk pausing (unit plan) n s) → faults (run word n s).answer ≡ true →
    StandsAtFault word n s
stands_after word n s plan e ends f =
    let before = run_walk word ends.units s plan e in
    let last : unit plan (run word ends.units s).state ≡ run word n s =
    rw (before, run_walk word n s plan e) ends.last in
    let at = fault_at plan (run word ends.units s).state (rw last f) in
    record {
      units = ends.units;
      fewer = ends.fewer;
      before = is_paused (run word ends.units s).answer (rw before ends.paused);
      plan = plan;
      planned = e;
      last = last;
      source = at.source;
      destination = at.destination;
      pair = at.met;
      state =
          sym (ap (λ o. o.state) last)
          ∙ stands_at plan (run word ends.units s).state at.source at.destination at.stands;
      access = at.access;
      accessed = at.accessed;
      why = why_answered plan (run word ends.units s).state (run word n s) at.access last at.why;
    }

fault_stands :
    (word n : ℕ) (s : System) (plan : Plan) → prepare word s ≡ ready plan → faults (run word n s).answer ≡ true →
    StandsAtFault word n s
fault_stands word n s plan e f =
    let ended : pauses (walk pausing (unit plan) n s).answer ≡ false =
    rw (← run_walk word n s plan e) (fault_ends (run word n s).answer f) in
    stands_after word n s plan e (walk_ending pausing (unit plan) n s ended) f

pub fault_known : (word n : ℕ) (s : System) → faults (run word n s).answer ≡ true → StandsAtFault word n s
fault_known word n s = by (prepare word s) refl
  where
    by : (r : Prepared Answer Plan) → prepare word s ≡ r → faults (run word n s).answer ≡ true → StandsAtFault word n s
    by (refused a) e f =
        let g = rw (run_refused word n s a e) at f in
        absurd (true≢false (sym g ∙ (prepare_refusal word s a e).faultless))
    by (ready plan) e f = fault_stands word n s plan e f
