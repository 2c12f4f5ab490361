use Rattle.machine.proofs.Shapes.{parts}
use Rattle.simplev_arrays.proofs.Arrays.{all_bits}
use Rattle.simplev_arrays.proofs.Leaves.{replies_same}
use Rattle.simplev_arrays.proofs.setting.set_vl.Goals as goal

pub returns : goal.returns
returns c =
    let made = c in
    replies_same _ _ _ _ _ c.set_control.ensures
    (λ shaped there. rw (c.from.ensures, made.with_vl-state.ensures, all_bits made.state_of-old.ensures (parts _ shaped).state))
