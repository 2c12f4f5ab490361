use Rattle.std.proofs.Common.{◌<◌, sym, ◌∙◌, inl, inr, rules}
use Rattle.walk_transfers.proofs.Standing.{Reached, reached, source_register}
use Rattle.walk_transfers.proofs.TransferLaws.{unit_end, unit_found, unit_zeroed}
use Rattle.walk_accesses.specs.Storing.{store_element, store_zero, store_unit}
use Rattle.walk_accesses.proofs.storing.StorePlan.unit.Goals.{in-Found, in-Zeroed}
use Rattle.walk_accesses.proofs.storing.StorePlan.unit.Goals as goal

pub register-requires : goal.register-requires
register-requires c =
    let ready = c.requires.sides_ready in
    let r = reached _ _ _ _ ready.1 (inl (sym c.find.ensures ∙ c.in-Found.is)) in
    source_register ready.0 r c.requires.registers

pub bounds-registers-register : goal.bounds-registers-register
bounds-registers-register c =
    let ready = c.requires.sides_ready in
    let r = reached _ _ _ _ ready.1 (inl (sym c.find.ensures ∙ c.in-Found.is)) in
    rw c.register.ensures (source_register ready.0 r c.requires.registers).0

pub offset_bounds-registers-register : goal.offset_bounds-registers-register
offset_bounds-registers-register c =
    let ready = c.requires.sides_ready in
    let r = reached _ _ _ _ ready.1 (inl (sym c.find.ensures ∙ c.in-Found.is)) in
    let below : c.register.result < 128 = rw c.register.ensures (source_register ready.0 r c.requires.registers).0 in
    search (rules, below)

-- the pair, whichever it is
pub store_at-requires : goal.store_at-requires
store_at-requires c =
    let ready = c.requires.sides_ready in
    let said = sym c.find.ensures in
    let r : Reached c.args.self.sides c.match-find.i.0 c.match-find.i.1 =
    elim c.match-find.branch [
      | in-Found w ↦ reached _ _ _ _ ready.1 (rw w.i-is (inl (said ∙ w.in-Found.is)))
      | in-Zeroed w ↦ reached _ _ _ _ ready.1 (rw w.i-is (inr (said ∙ w.in-Zeroed.is)))
    ] in
    (ready.0, r.i_below, r.j_below)

pub returns-in-End : goal.returns-in-End
unfolding store_unit
returns-in-End c = rw c.ended.ensures (unit_end _ _ _ _ _ _ c.find.ensures c.in-End.is)

pub returns : goal.returns
unfolding store_unit store_element store_zero
returns c =
    c.store_at.ensures
    ∙ elim c.match-find.branch [
      | in-Found w ↦ rw (w.i-is, w.register.ensures) (unit_found _ _ _ _ _ _ c.find.ensures _ _ w.in-Found.is)
      | in-Zeroed w ↦ rw w.i-is (unit_zeroed _ _ _ _ _ _ c.find.ensures _ _ w.in-Zeroed.is)
    ]
