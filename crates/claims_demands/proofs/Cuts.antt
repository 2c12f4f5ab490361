-- Demand 3: a cut makes no difference.
use Prim.Native.Nat.{ℕ}
use mathlib.Core.Path.{◌≡◌, refl, ◌∙◌}
use mathlib.Core.Bool.{true, false}
use lib.ListN.{get_or}
use Rattle.answers.specs.declared.Answer.{Answer}
use borrow.Author.Tests.{ne_eqb}
use Rattle.answers.specs.Answer.{number_of, pauses}
use Rattle.walk_pausable.specs.Call.{ready, NoRefusalPauses}
use Rattle.walk_pausable.specs.Cut.{ReadyFor, Cuttable}
use Rattle.walk_pausable.proofs.Cut.{cut}
use Rattle.walk_operations.specs.Context.{Context, pausing}
use Rattle.walk_handler.specs.Prepare.{Plan}
use Rattle.walk_handler.specs.Unit.{unit_of}
use Rattle.machine.specs.Shape.{in_shape, Sized}
use Rattle.machine.specs.Run.{System, context_of, with_context, word_on, prepare, unit, run}
use Rattle.claims_demands.specs.Premise.{IsMask, Apart}
use Rattle.claims_demands.specs.Cuts.{Between, nothing, copied, changed, CutKept}
use Rattle.claims_calls.proofs.Copy.{copy_kept}
use Rattle.claims_demands.proofs.Preparing.{Refusal, prepared_same}
use Rattle.claims_demands.proofs.Systems.{plan_of, plan_kept, sound_on, prepare_refusal}

refusal_ends : (a : Answer) → Refusal a → pauses a ≡ false
unfolding pauses
refusal_ends a r = ne_eqb (number_of a) 1 r.ends

pub no_refusal_pauses : (word : ℕ) → NoRefusalPauses pausing (prepare word)
no_refusal_pauses word s a e = refusal_ends a (prepare_refusal word s a e)

-- what the premise of demand 3 and the types say of a machine
pub record Keep (word : ℕ) (plan : Plan) (s : System) : Type 0 where
  pub sized : Sized s.machine
  pub apart : Apart word s.machine

-- the same word is prepared alike where the machine is in shape and no mask register has changed
prepare_again :
    (word : ℕ) (plan : Plan) (s : System) (after : Context) → prepare word s ≡ ready plan →
    in_shape (with_context s after).machine ≡ true →
    ((r : ℕ) → IsMask (word_on word s.machine) r → get_or after.registers r 0 ≡ get_or s.machine.registers r 0) →
    prepare word (with_context s after) ≡ ready plan
unfolding prepare
prepare_again word plan s after e h same =
    rw h
    (prepared_same s.machine.registers after.registers s.machine.state.vl (word_on word s.machine) same
    ∙ rw (plan_of word s plan e).shaped at e)

module _ (word : ℕ) (plan : Plan) where
  -- after any unit the preparation gives the same plan again: this is where the premise is used
  plan_lasts :
      (s : System) → ReadyFor (prepare word) (Keep word) plan s →
      ReadyFor (prepare word) (Keep word) plan (unit plan s).state
  unfolding unit
  plan_lasts s (e, k) =
      let p = plan_of word s plan e in
      let u = sound_on word s plan p in
      let after = (unit_of plan (context_of s)).state in (
        prepare_again word plan s after e (plan_kept word s plan p).shaped (λ r m. u.kept.others r (k.apart r m)),
        record {
          sized = record {
            registers = u.kept.size ∙ k.sized.registers;
            register_table = k.sized.register_table;
            predicate_table = k.sized.predicate_table;
          };
          apart = k.apart;
        },
      )

-- the copy gives back a machine in shape
copy_same :
    (word : ℕ) (b : Between) (plan : Plan) (s : System) → ReadyFor (prepare word) (Keep word) plan s → changed b s ≡ s
copy_same word nothing plan s r = refl
copy_same word (copied ps whole host sized shaped) plan s (e, k) =
    rw (copy_kept ps whole s.machine host k.sized sized (plan_of word s plan e).shaped shaped)

cuttable : (word : ℕ) → Cuttable pausing (prepare word) unit changed (Keep word)
cuttable word = record {
  refusals = no_refusal_pauses word;
  lasts = λ plan s r e. plan_lasts word plan s r;
  unchanged = copy_same word;
}

pub cut_kept : CutKept
unfolding run
cut_kept word s n fs sized apart = cut (cuttable word) n fs s (λ plan e. record { sized = sized; apart = apart })
