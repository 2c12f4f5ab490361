-- A unit that reads a memory beside the one lent: its walk is the walk on that memory.
use Rattle.std.proofs.Common.{◌≡◌, ℕ, zero, suc, Bool, true, false, List, refl, sym, ◌∙◌, ap}
use Rattle.answers.specs.Answer.{pauses}
use Rattle.answers.specs.declared.Answer.{Answer}
use Rattle.walk_pausable.specs.Outcome.{Outcome, outcome}
use Rattle.walk_pausable.specs.Walk.{walk}
use Rattle.walk_operations.specs.declared.position.Position.{Position}
use Rattle.walk_operations.specs.Context.{Context, context, pausing, reading}
use Rattle.walk_operations.specs.Plan.{SameWalk}

module _ (bytes : List ℕ) (unit : Context → Outcome Answer Context)
    (keeps : (c : Context) → c.memory ≡ bytes → (unit c).state.memory ≡ bytes)
  where
    pub walk_reading :
        (n : ℕ) (c : Context) → walk pausing (reading bytes unit) n c ≡ reading bytes (walk pausing unit n) c
    unfolding walk
    walk_reading zero c = refl
    walk_reading (suc n) c =
        by (pauses first.answer) refl (walk_reading n (context first.state.registers c.memory first.state.position))
      where
        first : Outcome Answer Context
        first = unit (context c.registers bytes c.position)

        same : context first.state.registers bytes first.state.position ≡ first.state
        same =
            ap (λ memory. context first.state.registers memory first.state.position)
            (sym (keeps (context c.registers bytes c.position) refl))

        later : Context → Outcome Answer Context
        later s = let o = walk pausing unit n s in outcome o.answer (context o.state.registers c.memory o.state.position)

        by :
            (t : Bool) → pauses first.answer ≡ t →
            walk pausing (reading bytes unit) n (context first.state.registers c.memory first.state.position)
            ≡ reading bytes (walk pausing unit n) (context first.state.registers c.memory first.state.position) →
            walk pausing (reading bytes unit) (suc n) c ≡ reading bytes (walk pausing unit (suc n)) c
        by true e rest = rw e (rest ∙ ap later same)
        by false e rest = rw e refl

    -- a walk goes from one position as from the other where that on the memory does
    pub same_reading : (p q : Position) → SameWalk unit p q → SameWalk (reading bytes unit) p q
    same_reading p q same n registers memory some =
        walk_reading n (context registers memory q)
        ∙ ap (λ o. outcome o.answer (context o.state.registers memory o.state.position)) (same n registers bytes some)
        ∙ sym (walk_reading n (context registers memory p))
