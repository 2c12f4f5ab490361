-- Stores: the element at a pair.
use Rattle.std.specs.Prelude.{ℕ, slice_index, ⊤, Result, Ok, Err}
use Rattle.answers.specs.declared.Answer.{Answer}
use Rattle.scalar.specs.Width.{bytes_of}
use Rattle.memory.specs.declared.access.Outside.{Outside}
use Rattle.memory.specs.Transfer.{store_answer, stored}
use Rattle.walk_operands.specs.Place.{register_at}
use Rattle.walk_pausable.specs.Outcome.{Outcome}
use Rattle.walk_accesses.specs.declared.storing.StorePlan.{StorePlan}
use Rattle.walk_operations.specs.Context.{Context}
use Rattle.walk_accesses.specs.Loading.{address_at}
use Rattle.walk_operations.specs.declared.position.Fault.TheVariants as fault
use Rattle.walk_transfers.specs.Transfer.{Transferred, moved, refused, transfer_unit}
use Rattle.walk_accesses.specs.Alignment.{where_aligned}

abbrev pub stored_to : StorePlan → Context → ℕ → ℕ → Result ⊤ Outside → Transferred
stored_to p c address value (Ok done) = moved c.registers (stored c.memory address (bytes_of p.width) value)
stored_to p c address value (Err outside) = refused fault.Outside address

-- the destination side is the address
unfoldable pub store_value : StorePlan → Context → ℕ → ℕ → Transferred
store_value p c j value =
    let address = address_at p.sides.destination.place p.offset p.width c.registers j in
    where_aligned address (bytes_of p.width)
    (stored_to p c address value (store_answer c.memory address (bytes_of p.width)))

unfoldable pub store_element : StorePlan → Context → ℕ → ℕ → Transferred
store_element p c i j = store_value p c j (slice_index c.registers (register_at p.sides.source.place i))

-- zero bytes of the access width
unfoldable pub store_zero : StorePlan → Context → ℕ → ℕ → Transferred
store_zero p c i j = store_value p c j 0

unfoldable pub store_unit : StorePlan → Context → Outcome Answer Context
store_unit p c = transfer_unit p.sides 4 (store_element p) (store_zero p) c
