use Rattle.machine.proofs.Shapes.{parts}
use Rattle.simplev_arrays.proofs.Arrays.{all_bits}
use Rattle.simplev_arrays.proofs.Leaves.{read_replies, replies_same}
use Rattle.simplev.proofs.reading.simplev_read_state_word.Goals as goal

pub returns : goal.returns
returns c =
    replies_same _ _ _ _ _ (read_replies _ _ _ _ c.answer.ensures c.write_answer.ensures)
    (λ shaped there.
    rw (c.from.ensures, c.from-word.ensures, all_bits c.state_of.ensures (parts _ shaped).state))
