-- A call that is guarded: its tests refuse, or the rest of it decides.
use mathlib.Core.Path.{◌≡◌, refl, sym}
use mathlib.Core.Bool.{Bool, true, false, cond, true≢false}
use Rattle.answers.specs.declared.Answer.{Answer}
use Rattle.answers.specs.declared.Answer.TheVariants.{Done, OutOfShape, BadValue, NoSuchPlace}
use Rattle.bits.proofs.Booleans.{by_cond}
use Rattle.answers.specs.Answer.{accepts}
use Rattle.answers.specs.Verdict.{valid, verdict}
use Rattle.machine.specs.declared.Machine.{Machine}
use Rattle.machine.specs.declared.Reply.{Reply}
use Rattle.machine.specs.Calls.{refuse, guarded}
use Rattle.machine.specs.Shape.{in_shape}

pub by_guard :
    (Q : Reply → Type 0) {m : Machine} {reply : Reply} (exists : Bool) (own : Answer) →
    Q (refuse m OutOfShape) → (exists ≡ false → Q (refuse m NoSuchPlace)) → (accepts own ≡ false → Q (refuse m own)) →
    (in_shape m ≡ true → accepts own ≡ true → Q reply) → Q (guarded m exists own reply)
unfolding accepts verdict
by_guard Q {m} {reply} exists own shape place refused then = by (in_shape m) exists refl refl
  where
    by :
        (a b : Bool) → in_shape m ≡ a → exists ≡ b →
        Q (cond (accepts (verdict a b own)) reply (refuse m (verdict a b own)))
    by true true h p = by_cond Q (accepts own) (then h) refused
    by true false h p = place p
    by false b h p = shape

-- a call whose own answer is 0 or 7
pub by_value :
    (Q : Reply → Type 0) {m : Machine} {reply : Reply} (exists taken : Bool) →
    Q (refuse m OutOfShape) → (exists ≡ false → Q (refuse m NoSuchPlace)) → (taken ≡ false → Q (refuse m BadValue)) →
    (in_shape m ≡ true → taken ≡ true → Q reply) → Q (guarded m exists (valid taken) reply)
unfolding accepts
by_value Q exists true shape place value then =
    by_guard Q exists (Done 0) shape place (λ e. absurd (true≢false e)) (λ h e. then h refl)
by_value Q exists false shape place value then =
    by_guard Q exists BadValue shape place (λ e. value refl) (λ h e. absurd (true≢false (sym e)))
