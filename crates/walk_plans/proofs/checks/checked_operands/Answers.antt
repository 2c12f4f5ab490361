use mathlib.Core.Path.{◌≡◌}
use mathlib.Core.Bool.{Bool, ◌&&◌}
use mathlib.Core.List.{[], ◌∷◌}
use Rattle.bits.specs.Lists.{all}
use Rattle.bits.proofs.Booleans.{fails, holds}
use Rattle.decode.specs.declared.decoded.ResolvedOperand.{ResolvedOperand}
use Rattle.walk_plans.specs.Operands.{default_width, checked_operands}
use Rattle.walk_plans.proofs.Again.{all_three}
use Rattle.walk_plans.proofs.checks.checked_operands.Goals as goal

widths :
    (first second third : ResolvedOperand) {a b c : Bool} → a ≡ default_width first → b ≡ default_width second →
    c ≡ default_width third → (a && b && c) ≡ all default_width (first ∷ second ∷ third ∷ [])
widths first second third e f g = rw (g, f, e) (all_three default_width first second third)

pub returns-then-not-default_width : goal.returns-then-not-default_width
unfolding checked_operands
returns-then-not-default_width c =
    rw
    (fails (widths _ _ _ c.default_width.ensures c.default_width-2.ensures c.default_width-3.ensures)
    c.if-not-default_width.true)

-- the tests that were passed
pub returns-then-not-fitting : goal.returns-then-not-fitting
unfolding checked_operands all
returns-then-not-fitting c =
    let wide = holds (widths _ _ _ c.default_width.ensures c.default_width-2.ensures c.default_width-3.ensures)
    c.if-not-default_width.false in
    rw (wide, fails c.fitting.ensures c.if-not-fitting.true)

pub returns-then-not-fitting-2 : goal.returns-then-not-fitting-2
unfolding checked_operands all
returns-then-not-fitting-2 c =
    let wide = holds (widths _ _ _ c.default_width.ensures c.default_width-2.ensures c.default_width-3.ensures)
    c.if-not-default_width.false in
    rw
    (wide, holds c.fitting.ensures c.if-not-fitting.false, fails c.fitting-2.ensures c.if-not-fitting-2.true)

pub returns-then-not-fitting-3 : goal.returns-then-not-fitting-3
unfolding checked_operands all
returns-then-not-fitting-3 c =
    let wide = holds (widths _ _ _ c.default_width.ensures c.default_width-2.ensures c.default_width-3.ensures)
    c.if-not-default_width.false in
    rw (
      wide,
      holds c.fitting.ensures c.if-not-fitting.false,
      holds c.fitting-2.ensures c.if-not-fitting-2.false,
      fails c.fitting-3.ensures c.if-not-fitting-3.true,
    )

pub returns : goal.returns
unfolding checked_operands all
returns c =
    let wide = holds (widths _ _ _ c.default_width.ensures c.default_width-2.ensures c.default_width-3.ensures)
    c.if-not-default_width.false in
    rw (
      wide,
      holds c.fitting.ensures c.if-not-fitting.false,
      holds c.fitting-2.ensures c.if-not-fitting-2.false,
      holds c.fitting-3.ensures c.if-not-fitting-3.false,
    )
