use Rattle.std.proofs.Common.{◌<◌, inl, inr, refl, sym, ◌∙◌, rules}
use Rattle.walk_transfers.specs.Moving.{move_element, zero_element, move_unit}
use Rattle.walk_transfers.proofs.Standing.{Reached, reached, source_register, destination_register}
use Rattle.walk_transfers.proofs.TransferLaws.{unit_end, unit_found, unit_zeroed, unit_moved}
use Rattle.walk_transfers.proofs.sides.Sides.move_unit.Goals.{Joined-find, in-Found, in-Zeroed}
use Rattle.walk_transfers.proofs.sides.Sides.move_unit.Goals as goal

pub register-requires : goal.register-requires
register-requires c =
    let ready = c.requires.sides_ready in
    let r = reached _ _ _ _ ready.1 (inl (sym c.find.ensures ∙ c.in-Found.is)) in
    source_register ready.0 r c.requires.registers.0

pub bounds-registers-register : goal.bounds-registers-register
bounds-registers-register c =
    let ready = c.requires.sides_ready in
    let r = reached _ _ _ _ ready.1 (inl (sym c.find.ensures ∙ c.in-Found.is)) in
    rw c.register.ensures (source_register ready.0 r c.requires.registers.0).0

pub offset_bounds-registers-register : goal.offset_bounds-registers-register
offset_bounds-registers-register c =
    let ready = c.requires.sides_ready in
    let r = reached _ _ _ _ ready.1 (inl (sym c.find.ensures ∙ c.in-Found.is)) in
    let below : c.register.result < 128 =
    rw c.register.ensures (source_register ready.0 r c.requires.registers.0).0 in
    search (rules, below)

pub returns-in-End : goal.returns-in-End
unfolding move_unit
returns-in-End c memory = rw c.ended.ensures (unit_end _ _ _ _ _ _ c.find.ensures c.in-End.is)

-- the pair, whichever it is
met : (c : Joined-find) → Reached c.args.self c.match-find.i.0 c.match-find.i.1
met c =
    let within = c.requires.sides_ready.1 in
    let said = sym c.find.ensures in
    elim c.match-find.branch [
      | in-Found w ↦ reached _ _ _ _ within (rw w.i-is (inl (said ∙ w.in-Found.is)))
      | in-Zeroed w ↦ reached _ _ _ _ within (rw w.i-is (inr (said ∙ w.in-Zeroed.is)))
    ]

pub put-requires-clause-i_lt_vl : goal.put-requires-clause-i_lt_vl
put-requires-clause-i_lt_vl c =
    let r = met c.before in (r.i_below, r.j_below, c.requires.sides_ready.0.most)

pub put-requires-clause-register : goal.put-requires-clause-register
put-requires-clause-register c =
    destination_register c.requires.sides_ready.0 (met c.before) c.requires.registers.1

pub returns : goal.returns
unfolding move_unit
returns c memory =
    let said = c.find.ensures in
    rw (c.put.ensures.ran, c.put.ensures.registers)
    (elim c.match-find.branch [
      | in-Found w ↦
          rw (w.i-is, w.register.ensures)
          (unit_moved _ _ _ _ _ _ _ _ (unit_found _ _ _ _ _ _ said _ _ w.in-Found.is) _ _
          (unfold move_element in refl))
      | in-Zeroed w ↦
          rw w.i-is
          (unit_moved _ _ _ _ _ _ _ _ (unit_zeroed _ _ _ _ _ _ said _ _ w.in-Zeroed.is) _ _
          (unfold zero_element in refl))
    ])
