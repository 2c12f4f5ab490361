use Rattle.bits.proofs.Booleans.{fails}
use Rattle.walk_handler.proofs.Handled.{refused_word}
use Rattle.walk_handler.proofs.run.Goals as goal

pub returns-then-not-accepts : goal.returns-then-not-accepts
returns-then-not-accepts c =
    let e = c.checked-answer.ensures in
    rw e (refused_word _ _ _ _ (rw e at (fails c.accepts.ensures c.if-not-accepts.true)))
