-- A cut makes no difference.
use Prim.Native.Nat.{ℕ, ◌+◌}
use mathlib.Core.Path.{◌≡◌, refl, sym, ◌∙◌}
use mathlib.Core.List.{List, [], ◌∷◌}
use Rattle.walk_pausable.specs.Outcome.{Pausing, Outcome, Paused, if_paused}
use Rattle.walk_pausable.specs.Walk.{walk}
use Rattle.walk_pausable.specs.Call.{Prepared, refused, ready, NextCall, called, listed, total}
use Rattle.walk_pausable.specs.Cut.{ReadyFor, Cuttable, CutLaw}
use Rattle.walk_pausable.proofs.Pause.{same_next}
use Rattle.walk_pausable.proofs.Walk.{walk_add}
use Rattle.walk_pausable.proofs.Invariant.{walk_pause_keeps}
use Rattle.walk_pausable.proofs.Call.{called_refused, called_ready, resumed, listed_ended}

module _ {A S P H : Type 0} {answers : Pausing A} {prepare : S → Prepared A P} {unit : P → S → Outcome A S}
    {change : H → S → S} {Keep : P → S → Type 0} (c : Cuttable answers prepare unit change Keep)
  where
    abbrev call : ℕ → S → Outcome A S
    call = called answers prepare unit

    abbrev cut_call : ℕ → List (NextCall H) → S → Outcome A S
    cut_call = listed answers change call

    abbrev At : P → S → Type 0
    At = ReadyFor prepare Keep

    is_walk : {p : P} {s : S} (n : ℕ) → At p s → call n s ≡ walk answers (unit p) n s
    is_walk {s} n k = called_ready answers prepare unit n s k.0

    call_lasts : {p : P} (n : ℕ) (s : S) → At p s → Paused answers (call n s) → At p (call n s).state
    call_lasts {p} n s k = rw (is_walk n k) (walk_pause_keeps answers (unit p) (At p) (c.lasts p) n s k)

    call_add : {p : P} (a b : ℕ) (s : S) → At p s → call (a + b) s ≡ if_paused answers (call a s) (call b)
    call_add {p} a b s k =
        is_walk (a + b) k
        ∙ walk_add answers (unit p) a b s
        ∙ rw (← is_walk a k)
        (same_next answers (call a s) (walk answers (unit p) b) (call b) (λ e. sym (is_walk b (call_lasts a s k e))))

    cut_ready : {p : P} (n : ℕ) (fs : List (NextCall H)) (s : S) → At p s → cut_call n fs s ≡ call (total n fs) s
    unfolding listed
    cut_ready n [] s k = refl
    cut_ready {p} n (f ∷ fs) s k =
        same_next answers (call n s) (resumed answers change call f fs) (call (total f.allowance fs))
        (λ e.
        let l = call_lasts n s k e in
        rw (c.unchanged f.change p (call n s).state l) (cut_ready f.allowance fs (call n s).state l))
        ∙ sym (call_add n (total f.allowance fs) s k)

    cut_refused :
        {a : A} (n : ℕ) (fs : List (NextCall H)) (s : S) → prepare s ≡ refused a →
        cut_call n fs s ≡ call (total n fs) s
    cut_refused {a} n fs s e =
        let same = called_refused answers prepare unit n s e in
        listed_ended answers change call n fs s (rw same (c.refusals s a e))
        ∙ same ∙ sym (called_refused answers prepare unit (total n fs) s e)

    pub cut : CutLaw answers prepare unit change Keep
    cut n fs s keep = by (prepare s) refl
      where
        by : (r : Prepared A P) → prepare s ≡ r → cut_call n fs s ≡ call (total n fs) s
        by (refused a) e = cut_refused n fs s e
        by (ready p) e = cut_ready n fs s (e, keep p e)
