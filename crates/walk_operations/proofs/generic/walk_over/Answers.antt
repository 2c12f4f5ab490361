use Rattle.std.proofs.Common.{◌≡◌, ◌+◌, ◌-◌, sym, refl, ◌∙◌, ap, not, arith}
use Rattle.walk_pausable.proofs.Turn.{walk_more, walk_end, walk_none}
use Rattle.walk_operations.proofs.generic.walk_over.Goals as goal

pub returns-then-allowance-eq0 : goal.returns-then-allowance-eq0
returns-then-allowance-eq0 g c = rw c.paused.ensures (walk_none _ _ _ _ (omega (arith, c.if-allowance-eq0.true)))

pub loop-done-init : goal.loop-done-init
loop-done-init g c =
    let all : c.args.allowance - 0 ≡ c.args.allowance = omega arith in (c.start-current.ensures.stands, rw all refl)

pub returns-then-not-pauses : goal.returns-then-not-pauses
returns-then-not-pauses g c =
    walk_end _ _ _ _ _ (omega arith) c.walk_unit-ran.ensures.ran c.pauses.ensures (ap not c.if-not-pauses.true)
    ∙ c.loop-done.invariant.1
    ∙ c.start-current.ensures.same _ _ _ (omega (arith, c.if-allowance-eq0.false))

pub loop-done-preserved : goal.loop-done-preserved
loop-done-preserved g c =
    let paused = sym c.pauses.ensures ∙ c.if-not-pauses.false in
    let left : c.args.allowance - (c.loop-done._done + 1) ≡ c.args.allowance - c.loop-done._done - 1 = omega arith in (
      c.walk_unit-ran.ensures.stands paused,
      rw left (walk_more _ _ _ _ _ (omega arith) c.walk_unit-ran.ensures.ran paused ∙ c.loop-done.invariant.1),
    )

pub returns : goal.returns
returns g c =
    rw c.paused-2.ensures
    (walk_none _ _ _ _ (omega arith)
    ∙ c.loop-done.invariant.1
    ∙ c.start-current.ensures.same _ _ _ (omega (arith, c.if-allowance-eq0.false)))
