use Rattle.std.proofs.Common.{sym, refl, ◌∙◌, inl, inr, arith}
use Rattle.bits.proofs.Booleans.{fails, holds}
use Rattle.walk_operands.proofs.Fits.{fits_at}
use Rattle.walk_operations.specs.declared.position.Fault.TheVariants.{Outside}
use Rattle.walk_transfers.specs.Moving.{zero_element}
use Rattle.walk_transfers.proofs.Standing.{Reached, reached, destination_register}
use Rattle.walk_transfers.proofs.TransferLaws.{unit_end, unit_found, unit_zeroed, unit_moved, unit_refused}
use Rattle.walk_accesses.specs.Loading.{load_unit}
use Rattle.walk_accesses.proofs.Elements.{where_misaligned, where_aligned-aligned, load_element-at}
use Rattle.walk_accesses.proofs.loading.LoadPlan.unit.Goals.{in-Found+else-not-aligned+in-Ok, in-Zeroed}
use Rattle.walk_accesses.proofs.loading.LoadPlan.unit.Goals as goal

pub address_at-address-requires : goal.address_at-address-requires
address_at-address-requires c =
    let ready = c.requires.sides_ready in
    let r = reached _ _ _ _ ready.1 (inl (sym c.find.ensures ∙ c.in-Found.is)) in
    (fits_at _ _ _ r.i_below ready.0.source, omega (arith, r.i_below, ready.0.most))

-- the pair, whichever it is
pub put-requires-clause-i_lt_vl : goal.put-requires-clause-i_lt_vl
put-requires-clause-i_lt_vl c =
    let ready = c.requires.sides_ready in
    let said = sym c.find.ensures in
    let r : Reached c.args.self.sides c.match-find.i.0 c.match-find.i.1 =
    elim c.match-find.branch [
      | in-Found+else-not-aligned+in-Ok w ↦ reached _ _ _ _ ready.1 (rw w.i-is (inl (said ∙ w.in-Found.is)))
      | in-Zeroed w ↦ reached _ _ _ _ ready.1 (rw w.i-is (inr (said ∙ w.in-Zeroed.is)))
    ] in
    (r.i_below, r.j_below, ready.0.most)

pub put-requires-clause-register : goal.put-requires-clause-register
put-requires-clause-register c =
    let ready = c.requires.sides_ready in
    let said = sym c.find.ensures in
    let r : Reached c.args.self.sides c.match-find.i.0 c.match-find.i.1 =
    elim c.match-find.branch [
      | in-Found+else-not-aligned+in-Ok w ↦ reached _ _ _ _ ready.1 (rw w.i-is (inl (said ∙ w.in-Found.is)))
      | in-Zeroed w ↦ reached _ _ _ _ ready.1 (rw w.i-is (inr (said ∙ w.in-Zeroed.is)))
    ] in
    destination_register ready.0 r c.requires.registers

pub returns-in-End : goal.returns-in-End
unfolding load_unit
returns-in-End c = rw c.ended.ensures (unit_end _ _ _ _ _ _ c.find.ensures c.in-End.is)

pub returns-then-not-aligned : goal.returns-then-not-aligned
unfolding load_unit
returns-then-not-aligned c =
    let misaligned = fails c.aligned.ensures c.if-not-aligned.true in
    rw c.faulted.ensures
    (unit_refused _ _ _ _ _ _ _ _ (unit_found _ _ _ _ _ _ c.find.ensures _ _ c.in-Found.is) _ _
    (load_element-at _ _ _ _ _ c.address_at-address.ensures ∙ where_misaligned _ _ _ misaligned))

pub returns-in-Err : goal.returns-in-Err
unfolding load_unit
returns-in-Err c =
    let aligned = holds c.aligned.ensures c.if-not-aligned.false in
    let outside = sym c.load_value.ensures ∙ c.in-Err.is in
    rw c.faulted-in-Err.ensures
    (unit_refused _ _ _ _ _ _ _ _ (unit_found _ _ _ _ _ _ c.find.ensures _ _ c.in-Found.is) Outside
    c.address_at-address.result
    (load_element-at _ _ _ _ _ c.address_at-address.ensures ∙ where_aligned-aligned _ _ _ aligned ∙ rw outside))

pub returns : goal.returns
unfolding load_unit
returns c =
    let said = c.find.ensures in
    rw (c.put.ensures.ran, c.put.ensures.registers)
    (elim c.match-find.branch [
      | in-Found+else-not-aligned+in-Ok w ↦
          let aligned = holds w.aligned.ensures w.if-not-aligned.false in
          let value = sym w.load_value.ensures ∙ w.in-Ok.is in
          rw w.i-is
          (unit_moved _ _ _ _ _ _ _ _ (unit_found _ _ _ _ _ _ said _ _ w.in-Found.is) _ _
          (load_element-at _ _ _ _ _ w.address_at-address.ensures ∙ where_aligned-aligned _ _ _ aligned ∙ rw value))
      | in-Zeroed w ↦
          rw w.i-is
          (unit_moved _ _ _ _ _ _ _ _ (unit_zeroed _ _ _ _ _ _ said _ _ w.in-Zeroed.is) _ _
          (unfold zero_element in refl))
    ])
