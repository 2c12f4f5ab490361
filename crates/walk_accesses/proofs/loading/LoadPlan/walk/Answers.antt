use Rattle.std.proofs.Common.{◌∙◌, ap, sym}
use Rattle.walk_pausable.specs.Walk.{walk}
use Rattle.walk_operations.specs.Context.{context, pausing}
use Rattle.walk_operations.proofs.Reading.{walk_reading}
use Rattle.walk_accesses.specs.Loading.{load_unit}
use Rattle.walk_accesses.proofs.Kept.{load_unit_keeps_memory, load_keeps_memory}
use Rattle.walk_accesses.proofs.loading.LoadPlan.walk.Goals as goal

-- the walk that reads the memory lent beside it, and leaves it
pub returns : goal.returns
returns c =
    let memory = c.args.memory.now in
    let start = context c.args.registers.now memory c.args.position in
    let left = walk pausing (load_unit c.args.self) c.args.allowance start in
    ap (λ o. record { answer = o.answer; state = context o.state.registers memory o.state.position })
    (c.walk_over.ensures ∙ walk_reading memory (load_unit c.args.self) (load_unit_keeps_memory _ _) c.args.allowance _)
    ∙ ap (λ kept. record { answer = left.answer; state = context left.state.registers kept left.state.position })
    (sym (load_keeps_memory c.args.self c.args.allowance start))
