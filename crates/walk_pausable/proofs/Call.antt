-- How a call and a list of calls come out, by what was prepared and answered.
use Prim.Native.Nat.{ℕ}
use mathlib.Core.Path.{◌≡◌, refl}
use mathlib.Core.List.{List, [], ◌∷◌}
use Rattle.walk_pausable.specs.Outcome.{Pausing, Outcome, outcome, Ended}
use Rattle.walk_pausable.specs.Walk.{walk}
use Rattle.walk_pausable.specs.Call.{Prepared, refused, ready, NextCall, begun, called, listed}
use Rattle.walk_pausable.proofs.Pause.{ended_stays}

module _ {A S P : Type 0} (answers : Pausing A) (prepare : S → Prepared A P) (unit : P → S → Outcome A S)
    (n : ℕ) (s : S)
  where
    pub called_refused : {a : A} → prepare s ≡ refused a → called answers prepare unit n s ≡ outcome a s
    unfolding begun
    called_refused e = rw e

    pub called_ready : {p : P} → prepare s ≡ ready p → called answers prepare unit n s ≡ walk answers (unit p) n s
    unfolding begun
    called_ready e = rw e

module _ {A S H : Type 0} (answers : Pausing A) (change : H → S → S) (call : ℕ → S → Outcome A S) where
  -- what a list has left after a pause: the next change, and the calls from there
  abbrev pub resumed : NextCall H → List (NextCall H) → S → Outcome A S
  resumed f fs t = listed answers change call f.allowance fs (change f.change t)

  -- any answer but a pause ends the list
  pub listed_ended :
      (n : ℕ) (fs : List (NextCall H)) (s : S) → Ended answers (call n s) → listed answers change call n fs s ≡ call n s
  unfolding listed
  listed_ended n [] s e = refl
  listed_ended n (f ∷ fs) s e = ended_stays answers (call n s) (resumed f fs) e
