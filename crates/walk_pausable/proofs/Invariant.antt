-- What every unit keeps, a walk keeps, and a call, and a list of calls.
use Prim.Native.Nat.{ℕ}
use mathlib.Core.Path.{◌≡◌, refl}
use mathlib.Core.List.{List, [], ◌∷◌}
use Rattle.walk_pausable.specs.Outcome.{Pausing, Outcome, Paused}
use Rattle.walk_pausable.specs.Walk.{walk}
use Rattle.walk_pausable.specs.Call.{Prepared, refused, ready, NextCall, begun, called, listed}
use Rattle.walk_pausable.specs.Invariant.{Keeps, PauseKeeps}
use Rattle.walk_pausable.proofs.Pause.{by_pause}
use Rattle.walk_pausable.proofs.Walk.{walk_induction}
use Rattle.walk_pausable.proofs.Call.{resumed}

module _ {A S : Type 0} (answers : Pausing A) (unit : S → Outcome A S) (Q : S → Type 0) where
  pub walk_keeps : Keeps Q unit → (n : ℕ) → Keeps Q (walk answers unit n)
  walk_keeps keeps =
      walk_induction answers unit (λ n s o. Q s → Q o.state)
      (λ s q. q) (λ n s e. keeps s) (λ n s o e rest q. rest (keeps s q))

  pub walk_pause_keeps : PauseKeeps answers Q unit → (n : ℕ) → PauseKeeps answers Q (walk answers unit n)
  walk_pause_keeps keeps =
      walk_induction answers unit (λ n s o. Q s → Paused answers o → Q o.state)
      (λ s q e. q) (λ n s e. keeps s) (λ n s o e rest q. rest (keeps s q e))

module _ {A S P : Type 0} (answers : Pausing A) (prepare : S → Prepared A P) (unit : P → S → Outcome A S)
    (Q : S → Type 0)
  where
    -- only of the plans that a state with Q prepares is anything asked
    pub call_keeps :
        ((s : S) (p : P) → Q s → prepare s ≡ ready p → Keeps Q (unit p)) →
        (n : ℕ) → Keeps Q (called answers prepare unit n)
    unfolding begun
    call_keeps keeps n s q = by (prepare s) refl
      where
        by : (r : Prepared A P) → prepare s ≡ r → Q (begun answers unit r n s).state
        by (refused a) e = q
        by (ready p) e = walk_keeps answers (unit p) Q (keeps s p q e) n s q

module _ {A S H : Type 0} (answers : Pausing A) (change : H → S → S) (call : ℕ → S → Outcome A S) (Q : S → Type 0) where
  pub list_keeps :
      ((n : ℕ) → Keeps Q (call n)) → ((h : H) (s : S) → Q s → Q (change h s)) →
      (n : ℕ) (fs : List (NextCall H)) → Keeps Q (listed answers change call n fs)
  unfolding listed
  list_keeps calls changes n [] s q = calls n s q
  list_keeps calls changes n (f ∷ fs) s q =
      by_pause answers (call n s) (resumed answers change call f fs) (λ o. Q o.state)
      (λ e. calls n s q)
      (λ e. list_keeps calls changes f.allowance fs _ (changes f.change _ (calls n s q)))
