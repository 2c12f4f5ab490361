-- From the outcome of a call to what it returns and leaves.
use Prim.Native.Nat.{ℕ}
use mathlib.Core.Path.{◌≡◌, refl, sym, ◌∙◌, ap}
use mathlib.Core.Bool.{Bool, true, false, cond, true≢false}
use borrow.Author.Tests.{eqb-true, eqb-false}
use Rattle.answers.specs.declared.Answer.{Answer}
use Rattle.answers.specs.Answer.{accepts}
use Rattle.answers.specs.Verdict.{verdict}
use Rattle.walk_pausable.specs.Outcome.{Outcome, outcome}
use Rattle.machine.specs.declared.Machine.{Machine}
use Rattle.machine.specs.declared.Reply.{Reply}
use Rattle.machine.specs.Shape.{in_shape}
use Rattle.machine.specs.Calls.{refuse, done, guarded}
use Rattle.machine.specs.Run.{System}
use Rattle.simplev_arrays.specs.Leaves.{Says, Replies, Leaves}

pub leaves :
    {a : Answer} {s : System} {o : Outcome Answer System} {n v : ℕ} → outcome a s ≡ o → Says a n v → Leaves o n v s
leaves e said = rw (← e) (record { says = said; state = refl })

-- A setting call that was guarded leaves the machine as it was where it is refused, and else what it sets.
module _
    (m after : Machine) (exists : Bool) (own : Answer) (result : ℕ) {n v : ℕ}
    (guard : Replies (guarded m exists own (done m result)) n v m) where
  pub set_refused : (n ≡ 0 → ⊥) → Replies (guarded m exists own (done after result)) n v m
  set_refused h = by _ (accepts (verdict (in_shape m) exists own)) guard
    where
      by :
          (a : Answer) (t : Bool) → Replies (cond t (done m result) (refuse m a)) n v m →
          Replies (cond t (done after result) (refuse m a)) n v m
      by a true r = absurd (h r.says.number)
      by a false r = r

  pub set_accepted : n ≡ 0 → Replies (guarded m exists own (done after result)) n v after
  unfolding accepts
  set_accepted z = by _ (accepts (verdict (in_shape m) exists own)) refl guard
    where
      by :
          (a : Answer) (t : Bool) → accepts a ≡ t → Replies (cond t (done m result) (refuse m a)) n v m →
          Replies (cond t (done after result) (refuse m a)) n v after
      by a true e r = record { says = r.says; machine = refl }
      by a false e r = absurd (eqb-false _ _ e (sym r.says.number ∙ z))

-- a reading call leaves the machine
pub read_replies :
    (m : Machine) (exists : Bool) (own : Answer) (result : ℕ) {a : Answer} →
    a ≡ (guarded m exists own (done m result)).answer → {n v : ℕ} → Says a n v →
    Replies (guarded m exists own (done m result)) n v m
read_replies m exists own result {a} answered {n} {v} says = by (accepts (verdict (in_shape m) exists own)) answered
  where
    by :
        (t : Bool) → a ≡ (cond t (done m result) (refuse m (verdict (in_shape m) exists own))).answer →
        Replies (cond t (done m result) (refuse m (verdict (in_shape m) exists own))) n v m
    by true f = record { says = rw f at says; machine = refl }
    by false f = record { says = rw f at says; machine = refl }

-- By whether its answer accepts.
module _
    (m after : Machine) (exists : Bool) (own : Answer) (result : ℕ) {a : Answer}
    (answered : a ≡ (guarded m exists own (done m result)).answer) {n v : ℕ} (says : Says a n v) where
  pub answer_refused : accepts a ≡ false → Replies (guarded m exists own (done after result)) n v m
  unfolding accepts
  answer_refused h =
      set_refused m after exists own result (read_replies m exists own result answered says)
      (λ z. eqb-false _ _ h (sym says.number ∙ z))

  pub answer_accepted :
      {left : Machine} → accepts a ≡ true → left ≡ after → Replies (guarded m exists own (done after result)) n v left
  unfolding accepts
  answer_accepted h same =
      rw same
      (set_accepted m after exists own result (read_replies m exists own result answered says)
      (says.number ∙ eqb-true _ _ h))

-- what was set exists
pub set_exists :
    (m : Machine) (exists : Bool) (own : Answer) (result : ℕ) {a : Answer} →
    a ≡ (guarded m exists own (done m result)).answer → accepts a ≡ true → exists ≡ true
unfolding accepts verdict
set_exists m exists own result {a} answered h = by (in_shape m) exists answered
  where
    by :
        (s p : Bool) →
        a ≡ (cond (accepts (verdict s p own)) (done m result) (refuse m (verdict s p own))).answer → p ≡ true
    by s true f = refl
    by true false f = absurd (true≢false (sym h ∙ rw f refl))
    by false false f = absurd (true≢false (sym h ∙ rw f refl))

-- What a call replies matters only on a machine in shape, at an entry or register that exists.
module _ (m : Machine) (exists : Bool) (own : Answer) (a b : Reply) where
  same_guarded :
      (in_shape m ≡ true → exists ≡ true → a ≡ b) → guarded m exists own a ≡ guarded m exists own b
  unfolding accepts verdict
  same_guarded e = by (in_shape m) exists e
    where
      by :
          (s p : Bool) → (s ≡ true → p ≡ true → a ≡ b) →
          cond (accepts (verdict s p own)) a (refuse m (verdict s p own))
          ≡ cond (accepts (verdict s p own)) b (refuse m (verdict s p own))
      by true true f = ap (λ r. cond (accepts own) r (refuse m own)) (f refl refl)
      by true false f = refl
      by false p f = refl

  pub replies_same :
      {n v : ℕ} {after : Machine} → Replies (guarded m exists own a) n v after →
      (in_shape m ≡ true → exists ≡ true → a ≡ b) → Replies (guarded m exists own b) n v after
  replies_same replied e = rw (← same_guarded e) replied
