use Rattle.std.proofs.Common.{◌≡◌, ◌-◌}
use Rattle.walk_pausable.specs.Walk.{walk}
use Rattle.walk_operations.specs.Context.{context, pausing}
use Rattle.walk_operations.proofs.generic.walk_over.Given as goal

-- what is left to walk from here is the walk from where the first unit begins
abbrev pub invariant-loop-done : goal.invariant-loop-done
invariant-loop-done g l =
    let unit = g.P.PlanOver.unit_of l.plan in
    let lent = g.P.PlanOver.registers_in in
    g.P.PlanOver.stands l.plan l.current
    × (
    walk pausing unit (l.allowance - l._done) (context (lent l.registers) l.memory l.current)
    ≡ walk pausing unit l.allowance (context (lent l.initial.registers) l.initial.memory l.initial.current)
    )
