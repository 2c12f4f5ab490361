-- A call prepares and then walks; a list of calls goes on where the last one paused.
use Rattle.std.specs.Prelude.{ℕ, ◌+◌, false, ◌≡◌, List, [], ◌∷◌}
use Rattle.walk_pausable.specs.Outcome.{Pausing, Outcome, outcome, if_paused}
use Rattle.walk_pausable.specs.Walk.{walk}

-- what stands before a walk: the answer that refuses it, or the plan that it goes by
pub data Prepared (A P : Type 0) : Type 0 where
  refused : A → Prepared A P
  ready : P → Prepared A P

-- the next call: what happens to the state before it, an H, and the units that it may do
pub record NextCall (H : Type 0) : Type 0 where
  pub change : H
  pub allowance : ℕ

module _ {A S P : Type 0} where
  -- a refusal leaves the state as it is
  unfoldable pub begun : Pausing A → (P → S → Outcome A S) → Prepared A P → ℕ → S → Outcome A S
  begun answers unit (refused a) n s = outcome a s
  begun answers unit (ready p) n s = walk answers (unit p) n s

  abbrev pub called : Pausing A → (S → Prepared A P) → (P → S → Outcome A S) → ℕ → S → Outcome A S
  called answers prepare unit n s = begun answers unit (prepare s) n s

  abbrev pub NoRefusalPauses : Pausing A → (S → Prepared A P) → Type 0
  NoRefusalPauses answers prepare = (s : S) (a : A) → prepare s ≡ refused a → answers.paused a ≡ false

module _ {A S H : Type 0} where
  -- the first allowance; then, only where the last call paused, the change and the next allowance
  unfoldable pub listed : Pausing A → (H → S → S) → (ℕ → S → Outcome A S) → ℕ → List (NextCall H) → S → Outcome A S
  listed answers change call n [] s = call n s
  listed answers change call n (f ∷ fs) s =
      if_paused answers (call n s) (λ t. listed answers change call f.allowance fs (change f.change t))

-- the units that the calls of a list may do together
abbrev pub total : {H : Type 0} → ℕ → List (NextCall H) → ℕ
total n [] = n
total n (f ∷ fs) = n + total f.allowance fs
