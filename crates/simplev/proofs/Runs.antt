-- What a run on lent arrays leaves, by the handler's run of what it was lent.
use Prim.Native.Nat.{ℕ}
use mathlib.Core.Path.{◌≡◌, sym, ◌∙◌, ap}
use mathlib.Core.Bool.{true, false}
use Rattle.answers.specs.declared.Answer.{Answer}
use Rattle.answers.specs.declared.Answer.TheVariants.{OutOfShape}
use Rattle.walk_pausable.specs.Outcome.{Outcome}
use Rattle.decode.specs.declared.decoded.Decoded.{Decoded}
use Rattle.decode.specs.Decoding.{decoded, sources_unmasked as without_source_masks}
use Rattle.state_word.specs.declared.State.{State}
use Rattle.walk_operations.specs.Context.{Context, context}
use Rattle.walk_handler.specs.Unit.{handled}
use Rattle.walk_handler.proofs.Sources.{sources_unmasked}
use Rattle.machine.specs.Shape.{in_shape}
use Rattle.machine.specs.Run.{System, with_context, run}
use Rattle.machine.proofs.Handled.{put_back, run_handled, run_refused}
use Rattle.simplev_arrays.specs.Leaves.{Says, Leaves}
use Rattle.simplev_arrays.proofs.Leaves.{leaves}

module _ (word n : ℕ) (s : System) {a v : ℕ} where
  pub leaves_refused : in_shape s.machine ≡ false → Says OutOfShape a v → Leaves (run word n s) a v s
  leaves_refused h said = leaves (run_refused word n s h) said

  -- by the state as it was read, and the word as it was decoded
  pub leaves_run :
      (read : State) (d : Decoded) (o : Outcome Answer Context) → in_shape s.machine ≡ true →
      read ≡ s.machine.state →
      d ≡ without_source_masks (decoded word read.cfg s.machine.register_table s.machine.predicate_table) →
      o ≡ handled read.vl d n
      (context s.machine.registers s.memory
      (record { pc = s.machine.pc; source = read.source; destination = read.destination })) →
      Says o.answer a v → Leaves (run word n s) a v (with_context s o.state)
  leaves_run read d o h same e ran said =
      leaves (ap (put_back s) (ran ∙ rw (e, sources_unmasked, same)) ∙ sym (run_handled word n s h)) said
