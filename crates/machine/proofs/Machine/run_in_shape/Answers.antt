use Rattle.std.proofs.Common.{◌<◌, sym, ◌∙◌, ap, arith, rules}
use Rattle.walk_handler.proofs.Offsets.{ran_within}
use Rattle.walk_handler.proofs.Sources.{sources_unmasked}
use Rattle.machine.specs.Run.{system}
use Rattle.machine.proofs.Handled.{position_within, vl_most, put_back, run_handled}
use Rattle.machine.proofs.Machine.run_in_shape.Goals as goal

pub run-ran-requires : goal.run-ran-requires
run-ran-requires c = (vl_most _ c.requires, position_within _ c.requires)

-- the run leaves both offsets below VL, so that they fit
pub overflow_cast-self : goal.overflow_cast-self
overflow_cast-self c =
    let most = vl_most _ c.requires in
    let within = ran_within _ _ _ _ _ _ _ (position_within _ c.requires) c.run-ran.ensures in
    let below : c.run-ran.result.position.source < 64 = omega (arith, within.source) in
    search (rules, below)

pub overflow_cast-self-2 : goal.overflow_cast-self-2
overflow_cast-self-2 c =
    let most = vl_most _ c.requires in
    let within = ran_within _ _ _ _ _ _ _ (position_within _ c.requires) c.run-ran.ensures in
    let below : c.run-ran.result.position.destination < 64 = omega (arith, within.destination) in
    search (rules, below)

pub returns : goal.returns
returns c =
    let s = system c.args.self c.args.memory.now in
    ap (put_back s) (rw (c.decode-decoded.ensures, sources_unmasked) at c.run-ran.ensures)
    ∙ sym (run_handled _ _ _ c.requires)
