-- A cut makes no difference: what is asked of the parts, and what is claimed.
use Rattle.std.specs.Prelude.{ℕ, ◌≡◌, List}
use Rattle.walk_pausable.specs.Outcome.{Pausing, Outcome}
use Rattle.walk_pausable.specs.Call.{Prepared, ready, NextCall, called, NoRefusalPauses, listed, total}
use Rattle.walk_pausable.specs.Invariant.{PauseKeeps}

-- a state that prepares the plan p and has what Keep asks besides
abbrev pub ReadyFor : {A S P : Type 0} → (S → Prepared A P) → (P → S → Type 0) → P → S → Type 0
ReadyFor prepare Keep p s = (prepare s ≡ ready p) × Keep p s

module _ {A S P H : Type 0} (answers : Pausing A) (prepare : S → Prepared A P) (unit : P → S → Outcome A S)
    (change : H → S → S) (Keep : P → S → Type 0)
  where
    pub record Cuttable : Type 0 where
      pub refusals : NoRefusalPauses answers prepare
      -- after a unit that paused, the preparation gives the same plan again
      pub lasts : (p : P) → PauseKeeps answers (ReadyFor prepare Keep p) (unit p)
      -- a change leaves a state that a list can stand at between two calls as it is
      pub unchanged : (h : H) (p : P) (s : S) → ReadyFor prepare Keep p s → change h s ≡ s

    -- any list of calls, each but the first made only where the one before it paused, is one call of their total
    abbrev pub CutLaw : Type 0
    CutLaw =
        (n : ℕ) (fs : List (NextCall H)) (s : S) → ((p : P) → prepare s ≡ ready p → Keep p s) →
        listed answers change (called answers prepare unit) n fs s ≡ called answers prepare unit (total n fs) s
