use mathlib.Core.Path.{refl, sym, ◌∙◌}
use Rattle.simplev_arrays.proofs.Leaves.{answer_accepted, answer_refused}
use Rattle.simplev_arrays.proofs.setting.set_control.Goals.{then-accepts, else-accepts}
use Rattle.simplev_arrays.proofs.setting.set_control.Goals as goal

pub returns : goal.returns
returns c =
    let says = c.write_answer.ensures in
    elim c.if-accepts.branch [
      | then-accepts w ↦
          answer_accepted _ _ _ _ _ c.answer-answer.ensures says (sym c.accepts.ensures ∙ w.if-accepts.true)
          (rw (w.control-is, w.from.ensures, w.from-then-accepts.ensures, w.from-then-accepts-2.ensures, w.from-then-accepts-3.ensures, w.from-then-accepts-4.ensures) refl)
      | else-accepts w ↦
          rw w.control-is (answer_refused _ _ _ _ _ c.answer-answer.ensures says (sym c.accepts.ensures ∙ w.if-accepts.false))
    ]
