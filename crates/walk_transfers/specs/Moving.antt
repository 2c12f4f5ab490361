-- C.MV: the element at a pair of positions.
use Rattle.std.specs.Prelude.{ℕ, get_or}
use Rattle.answers.specs.declared.Answer.{Answer}
use Rattle.registers.specs.Written.{written}
use Rattle.walk_operands.specs.Place.{register_at}
use Rattle.walk_pausable.specs.Outcome.{Outcome}
use Rattle.walk_transfers.specs.declared.sides.Sides.{Sides}
use Rattle.walk_operations.specs.Context.{Context}
use Rattle.walk_transfers.specs.Transfer.{Transferred, moved, transfer_unit}

unfoldable pub move_element : Sides → Context → ℕ → ℕ → Transferred
move_element s c i j =
    moved
    (written c.registers (register_at s.destination.place j)
    (get_or c.registers (register_at s.source.place i) 0))
    c.memory

-- an off source position supplies 0, and an off destination position receives it
unfoldable pub zero_element : Sides → Context → ℕ → ℕ → Transferred
zero_element s c i j = moved (written c.registers (register_at s.destination.place j) 0) c.memory

unfoldable pub move_unit : Sides → Context → Outcome Answer Context
move_unit s c = transfer_unit s 2 (move_element s) (zero_element s) c
