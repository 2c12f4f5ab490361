use Rattle.machine.specs.Setting.{set_pc}
use Rattle.machine.proofs.Shapes.{parts}
use Rattle.simplev_arrays.proofs.Arrays.{all_bits}
use Rattle.simplev_arrays.proofs.Leaves.{replies_same}
use Rattle.simplev.proofs.setting.simplev_set_pc.Goals as goal

pub returns : goal.returns
unfolding set_pc
returns c =
    replies_same _ _ _ _ _ c.set_control.ensures
    (λ shaped there. rw (all_bits c.state_of-state.ensures (parts _ shaped).state))
