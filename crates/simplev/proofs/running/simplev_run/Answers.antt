use Rattle.bits.proofs.Booleans.{fails, holds}
use Rattle.machine.proofs.Shapes.{parts}
use Rattle.machine.proofs.Handled.{position_within, vl_most}
use Rattle.simplev_arrays.proofs.Arrays.{all_bits}
use Rattle.simplev.proofs.Runs.{leaves_refused, leaves_run}
use Rattle.simplev.proofs.running.simplev_run.Goals as goal

pub returns-then-not-in_shape : goal.returns-then-not-in_shape
returns-then-not-in_shape c =
    leaves_refused _ _ _ (fails c.in_shape.ensures c.if-not-in_shape.true) c.write_answer.ensures

pub run-ran-requires : goal.run-ran-requires
run-ran-requires c =
    let shaped = holds c.in_shape.ensures c.if-not-in_shape.false in
    rw (all_bits c.state_of-state.ensures (parts _ shaped).state) (vl_most _ shaped, position_within _ shaped)

pub returns : goal.returns
returns c =
    let shaped = holds c.in_shape.ensures c.if-not-in_shape.false in
    leaves_run _ _ _ _ _ _ shaped (all_bits c.state_of-state.ensures (parts _ shaped).state) c.decode-decoded.ensures
    c.run-ran.ensures c.write_answer-2.ensures
