use mathlib.Core.Path.{refl, sym, ◌∙◌}
use Rattle.machine.specs.Setting.{set_register}
use Rattle.simplev_arrays.proofs.Leaves.{answer_accepted, answer_refused}
use Rattle.simplev.proofs.setting.simplev_set_register.Goals.{then-accepts, else-accepts}
use Rattle.simplev.proofs.setting.simplev_set_register.Goals as goal

pub returns : goal.returns
unfolding set_register
returns c =
    let says = c.write_answer.ensures in
    elim c.if-accepts.branch [
      | then-accepts w ↦
          answer_accepted _ _ _ _ _ c.answer-answer.ensures says (sym c.accepts.ensures ∙ w.if-accepts.true)
          (rw (w.registers-is, w.write.ensures) refl)
      | else-accepts w ↦
          rw w.registers-is
          (answer_refused _ _ _ _ _ c.answer-answer.ensures says (sym c.accepts.ensures ∙ w.if-accepts.false))
    ]
