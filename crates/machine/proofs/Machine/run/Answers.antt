use mathlib.Core.Path.{sym, ◌∙◌}
use Rattle.machine.proofs.Handled.{run_refused}
use Rattle.machine.proofs.Machine.run.Goals as goal

pub returns : goal.returns
returns c =
    rw c.refuse.ensures (run_refused _ _ _ (sym c.in_shape.ensures ∙ c.if-in_shape.false))
