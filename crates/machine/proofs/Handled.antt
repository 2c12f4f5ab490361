-- A run of the machine is the handler's run of what a unit reads and writes of it.
use Prim.Native.Nat.{ℕ, zero, suc, ◌≤◌}
use mathlib.Core.Path.{◌≡◌, refl}
use mathlib.Core.Bool.{Bool, true, false, cond}
use native.Mathlib.Omega.{arith}
use Rattle.answers.specs.declared.Answer.{Answer}
use Rattle.answers.specs.declared.Answer.TheVariants.{OutOfShape}
use Rattle.answers.specs.Answer.{pauses}
use Rattle.walk_pausable.specs.Outcome.{Outcome, outcome}
use Rattle.walk_pausable.specs.Walk.{walk}
use Rattle.walk_pausable.specs.Call.{Prepared, refused, ready, begun}
use Rattle.state_word.proofs.States.{bounds}
use Rattle.walk_operations.specs.Context.{Context, pausing}
use Rattle.walk_transfers.specs.SidesReady.{Within}
use Rattle.walk_handler.specs.Prepare.{Plan, prepared}
use Rattle.walk_handler.specs.Unit.{unit_of, handled}
use Rattle.machine.specs.declared.Machine.{Machine}
use Rattle.machine.specs.Shape.{in_shape}
use Rattle.machine.specs.Run.{System, context_of, position_of, with_context, word_on, prepare, unit, run}
use Rattle.machine.proofs.Shapes.{parts}

-- a machine in shape stands below VL, which is at most 64
pub position_within : (m : Machine) → in_shape m ≡ true → Within m.state.vl (position_of m)
position_within m h =
    let b = bounds m.state (parts m h).state in
    record { source = b.source_high; destination = b.destination_high }

pub vl_most : (m : Machine) → in_shape m ≡ true → m.state.vl ≤ 64
vl_most m h = let b = bounds m.state (parts m h).state in omega (arith, b.vl_high, b.mvl_high)

-- an outcome put back into the machine and its memory
abbrev pub put_back : System → Outcome Answer Context → Outcome Answer System
put_back s o = outcome o.answer (with_context s o.state)

module _ (plan : Plan) where
  walk_handled :
      (n : ℕ) (s : System) → walk pausing (unit plan) n s ≡ put_back s (walk pausing (unit_of plan) n (context_of s))
  unfolding walk unit
  walk_handled zero s = refl
  walk_handled (suc n) s = by (unit_of plan (context_of s)) (walk_handled n)
    where
      by :
          (o : Outcome Answer Context) →
          ((t : System) → walk pausing (unit plan) n t ≡ put_back t (walk pausing (unit_of plan) n (context_of t))) →
          cond (pauses o.answer) (walk pausing (unit plan) n (with_context s o.state)) (put_back s o)
          ≡ put_back s (cond (pauses o.answer) (walk pausing (unit_of plan) n o.state) o)
      by o rest = go (pauses o.answer)
        where
          go :
              (t : Bool) →
              cond t (walk pausing (unit plan) n (with_context s o.state)) (put_back s o)
              ≡ put_back s (cond t (walk pausing (unit_of plan) n o.state) o)
          go true = rest (with_context s o.state)
          go false = refl

pub run_handled :
    (word n : ℕ) (s : System) → in_shape s.machine ≡ true →
    run word n s ≡ put_back s (handled s.machine.state.vl (word_on word s.machine) n (context_of s))
unfolding run prepare handled
run_handled word n s h = rw h (by (prepared s.machine.state.vl s.machine.registers (word_on word s.machine)))
  where
    by : (r : Prepared Answer Plan) → begun pausing unit r n s ≡ put_back s (begun pausing unit_of r n (context_of s))
    by (refused a) = unfold begun in refl
    by (ready plan) = unfold begun in walk_handled plan n s

pub run_refused : (word n : ℕ) (s : System) → in_shape s.machine ≡ false → outcome OutOfShape s ≡ run word n s
unfolding run prepare begun
run_refused word n s h = rw h
