use Rattle.std.proofs.Common.{◌≡◌, ◌<◌, refl, arith, rules}
use Rattle.walk_operands.proofs.Flipped.{all_on}
use Rattle.walk_operations.specs.Context.{context, outcome_of}
use Rattle.walk_transfers.specs.Moving.{move_element, move_unit}
use Rattle.walk_transfers.proofs.Standing.{on_pair, source_register, destination_register, standing}
use Rattle.walk_transfers.proofs.TransferLaws.{unit_found, unit_moved}
use Rattle.walk_transfers.proofs.Walks.{unit_standing}
use Rattle.walk_transfers.proofs.moving.UnmaskedPlan.walk_unit.Goals.{After-put}
use Rattle.walk_transfers.proofs.moving.UnmaskedPlan.walk_unit.Goals as goal

pub register-requires : goal.register-requires
register-requires c =
    let ready = c.requires.0 in source_register ready.0 (standing ready.1 ready.2) c.requires.1

pub bounds-registers-register : goal.bounds-registers-register
bounds-registers-register c =
    let ready = c.requires.0 in
    let h = source_register ready.0 (standing ready.1 ready.2) c.requires.1 in
    rw c.register.ensures h.0

pub offset_bounds-registers-register : goal.offset_bounds-registers-register
offset_bounds-registers-register c =
    let ready = c.requires.0 in
    let h = source_register ready.0 (standing ready.1 ready.2) c.requires.1 in
    let below : c.register.result < 128 = rw c.register.ensures h.0 in
    search (rules, below)

pub put-requires-clause-register : goal.put-requires-clause-register
put-requires-clause-register c =
    let ready = c.requires.0 in destination_register ready.0 (standing ready.1 ready.2) c.requires.2

ran :
    (c : After-put) →
    outcome_of c.put.result c.put.new.registers c.args.memory.now
    ≡ move_unit c.args.self.sides (context c.args.registers.now c.args.memory.now c.args.position)
unfolding move_unit
ran c =
    let ready = c.requires.0 in
    let most = ready.0.most in
    let within = ready.1 in
    let found =
    on_pair _ _ within ready.2 (all_on _ _ c.args.self.source_on (omega (arith, within.source, most)))
    (all_on _ _ c.args.self.destination_on (omega (arith, within.destination, most)))
    in
    rw (c.put.ensures.ran, c.put.ensures.registers, c.register.ensures)
    (unit_moved _ _ _ _ _ _ _ _ (unit_found _ _ _ _ _ _ found _ _ refl) _ _ (unfold move_element in refl))

pub returns-clause-ran : goal.returns-clause-ran
returns-clause-ran c = ran c

pub returns-clause-stands : goal.returns-clause-stands
unfolding move_unit
returns-clause-stands c paused = (unit_standing _ _ _ _ _ c.requires.0 (ran c), c.requires.1, c.requires.2)
