-- What the walk of a plan asks of its units.
use Rattle.std.specs.Prelude.{◌≡◌, ℕ, ◌<◌, List}
use Rattle.answers.specs.declared.Answer.{Answer}
use Rattle.walk_pausable.specs.Outcome.{Outcome}
use Rattle.walk_pausable.specs.Walk.{walk}
use Rattle.walk_operations.specs.declared.position.Position.{Position}
use Rattle.walk_operations.specs.Context.{Context, context, pausing}

-- a fact about where an instruction stands
abbrev pub OfPosition : Type 0 → Type 1
OfPosition P = P → Position → Type 0

-- what one unit does
abbrev pub UnitOf : Type 0 → Type 0
UnitOf P = P → Context → Outcome Answer Context

-- a walk of some units goes from one position as from the other
abbrev pub SameWalk : (Context → Outcome Answer Context) → Position → Position → Type 0
SameWalk unit p q =
    (n : ℕ) (registers memory : List ℕ) → 0 < n →
    walk pausing unit n (context registers memory q) ≡ walk pausing unit n (context registers memory p)
