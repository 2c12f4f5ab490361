use mathlib.Core.Path.{refl, sym, ◌∙◌}
use native.Mathlib.Nat.{div-one}
use borrow.Author.Tests.{ltb-true}
use Rattle.machine.specs.Setting.{set_predicate_entry}
use Rattle.simplev_arrays.proofs.Leaves.{answer_accepted, answer_refused, set_exists}
use Rattle.simplev.proofs.setting.simplev_set_predicate_entry.Goals.{then-accepts, else-accepts}
use Rattle.simplev.proofs.setting.simplev_set_predicate_entry.Goals as goal

pub put_entry-requires : goal.put_entry-requires
put_entry-requires c =
    ltb-true _ _
    (set_exists _ _ _ _ c.answer-answer.ensures (sym c.accepts.ensures ∙ c.if-accepts.true))

pub returns : goal.returns
unfolding set_predicate_entry
returns c =
    let says = c.write_answer.ensures in
    rw (div-one, ← c.valid.ensures)
    (elim c.if-accepts.branch [
      | then-accepts w ↦
          answer_accepted _ _ _ _ _ c.answer-answer.ensures says (sym c.accepts.ensures ∙ w.if-accepts.true)
          (rw (w.predicate_table-is, w.put_entry.ensures) refl)
      | else-accepts w ↦
          rw w.predicate_table-is
          (answer_refused _ _ _ _ _ c.answer-answer.ensures says (sym c.accepts.ensures ∙ w.if-accepts.false))
    ])
