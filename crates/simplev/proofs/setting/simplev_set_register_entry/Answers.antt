use mathlib.Core.Path.{refl, sym, ◌∙◌}
use borrow.Author.Tests.{ltb-true}
use Rattle.machine.specs.Setting.{set_register_entry}
use Rattle.simplev_arrays.proofs.Leaves.{answer_accepted, answer_refused, set_exists}
use Rattle.simplev.proofs.setting.simplev_set_register_entry.Goals.{then-accepts, else-accepts}
use Rattle.simplev.proofs.setting.simplev_set_register_entry.Goals as goal

pub put_entry-requires : goal.put_entry-requires
put_entry-requires c =
    ltb-true _ _
    (set_exists _ _ _ _ c.answer-answer.ensures (sym c.accepts.ensures ∙ c.if-accepts.true))

pub returns : goal.returns
unfolding set_register_entry
returns c =
    let says = c.write_answer.ensures in
    elim c.if-accepts.branch [
      | then-accepts w ↦
          answer_accepted _ _ _ _ _ c.answer-answer.ensures says (sym c.accepts.ensures ∙ w.if-accepts.true)
          (rw (w.register_table-is, w.put_entry.ensures) refl)
      | else-accepts w ↦
          rw w.register_table-is
          (answer_refused _ _ _ _ _ c.answer-answer.ensures says (sym c.accepts.ensures ∙ w.if-accepts.false))
    ]
