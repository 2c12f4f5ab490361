use Rattle.machine.specs.Setting.{set_mvl}
use Rattle.machine.proofs.Shapes.{parts}
use Rattle.simplev_arrays.proofs.Arrays.{all_bits}
use Rattle.simplev_arrays.proofs.Leaves.{replies_same}
use Rattle.simplev.proofs.setting.simplev_set_mvl.Goals as goal

pub returns : goal.returns
unfolding set_mvl
returns c =
    let made = c in
    rw (← c.valid.ensures) (replies_same _ _ _ _ _ c.set_control.ensures
    (λ shaped there. rw (made.with_mvl-state.ensures, all_bits made.state_of-old.ensures (parts _ shaped).state)))
