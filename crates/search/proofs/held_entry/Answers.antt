use mathlib.Core.Path.{sym, ◌∙◌}
use native.Mathlib.Omega.{arith}
use Rattle.search.proofs.Highest.{held_start, held_yes, held_no, held_none}
use Rattle.search.proofs.held_entry.Goals as goal

pub loop-i-init : goal.loop-i-init
loop-i-init c = held_start _ _ _ _ c.requires

pub returns-then-entry_answers : goal.returns-then-entry_answers
returns-then-entry_answers c =
    sym
    (c.loop-i.invariant
    ∙ held_yes _ _ _ _ c.loop-i.i c.loop-i-test.true (omega arith)
    (sym c.entry_answers.ensures ∙ c.if-entry_answers.true))

pub loop-i-preserved : goal.loop-i-preserved
loop-i-preserved c =
    c.loop-i.invariant
    ∙ held_no _ _ _ _ c.loop-i.i c.loop-i-test.true (omega arith)
    (sym c.entry_answers.ensures ∙ c.if-entry_answers.false)

pub returns : goal.returns
returns c = sym (c.loop-i.invariant ∙ held_none _ _ _ _ c.loop-i.i c.loop-i-test.false)
