use Rattle.std.proofs.Common.{◌∙◌, ap, sym}
use Rattle.walk_pausable.specs.Walk.{walk}
use Rattle.walk_operations.specs.Context.{context, pausing}
use Rattle.walk_accesses.specs.Storing.{store_unit}
use Rattle.walk_accesses.proofs.Kept.{store_keeps_registers}
use Rattle.walk_accesses.proofs.storing.StorePlan.walk.Goals as goal

-- the registers lent to it are those that it began with
pub returns : goal.returns
returns c =
    let registers = c.args.registers.now in
    let start = context registers c.args.memory.now c.args.position in
    let left = walk pausing (store_unit c.args.self) c.args.allowance start in
    ap (λ o. record { answer = o.answer; state = context registers o.state.memory o.state.position }) c.walk_over.ensures
    ∙ ap (λ kept. record { answer = left.answer; state = context kept left.state.memory left.state.position })
    (sym (store_keeps_registers c.args.self c.args.allowance start))
