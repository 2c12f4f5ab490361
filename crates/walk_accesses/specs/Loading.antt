-- Loads: the address of a position, and the element at a pair.
use Rattle.std.specs.Prelude.{ℕ, ◌+◌, ◌*◌, ◌%◌, ◌^◌, Bool, true, false, cond, List, slice_index, Result, Ok, Err}
use Rattle.answers.specs.declared.Answer.{Answer}
use Rattle.registers.specs.Written.{written}
use Rattle.scalar.specs.declared.width.Width.{Width}
use Rattle.scalar.specs.Width.{bytes_of}
use Rattle.scalar.specs.Signed.{sign_extended}
use Rattle.memory.specs.declared.access.Outside.{Outside}
use Rattle.memory.specs.Transfer.{loaded}
use Rattle.walk_operands.specs.declared.place.Place.{Place}
use Rattle.walk_operands.specs.Place.{register_at}
use Rattle.walk_pausable.specs.Outcome.{Outcome}
use Rattle.walk_accesses.specs.declared.loading.LoadPlan.{LoadPlan}
use Rattle.walk_operations.specs.Context.{Context}
use Rattle.walk_operations.specs.declared.position.Fault.TheVariants as fault
use Rattle.walk_transfers.specs.Transfer.{Transferred, moved, refused, transfer_unit}
use Rattle.walk_transfers.specs.Moving.{zero_element}
use Rattle.walk_accesses.specs.Alignment.{where_aligned}

-- The address of position i is (register + immediate + i × bytes of the access) when the address register is scalar,
-- and (register at i + immediate) when it's a vector, both modulo 2^64.
unfoldable pub address_at : Place → ℕ → Width → List ℕ → ℕ → ℕ
address_at p offset width registers i =
    cond p.vector
    ((slice_index registers (register_at p i) + offset) % 2 ^ 64)
    ((slice_index registers (register_at p i) + offset + i * bytes_of width) % 2 ^ 64)

-- a loaded number as 64 bits
abbrev pub extended : Bool → Width → ℕ → ℕ
extended true width value = sign_extended width value
extended false width value = value

-- the same of what a load answers
abbrev pub widened : Bool → Width → Result ℕ Outside → Result ℕ Outside
widened signed width (Ok value) = Ok (extended signed width value)
widened signed width (Err outside) = Err outside

-- what a load of some width brings from an address
unfoldable pub load_value : List ℕ → ℕ → Width → Bool → Result ℕ Outside
load_value memory address width signed = widened signed width (loaded memory address (bytes_of width))

abbrev pub loaded_to : LoadPlan → Context → ℕ → ℕ → Result ℕ Outside → Transferred
loaded_to p c address j (Ok value) =
    moved (written c.registers (register_at p.sides.destination.place j) value) c.memory
loaded_to p c address j (Err outside) = refused fault.Outside address

-- the source side is the address
unfoldable pub load_element : LoadPlan → Context → ℕ → ℕ → Transferred
load_element p c i j =
    let address = address_at p.sides.source.place p.offset p.width c.registers i in
    where_aligned address (bytes_of p.width)
    (loaded_to p c address j (load_value c.memory address p.width p.signed))

-- no memory is read for a 0
unfoldable pub load_unit : LoadPlan → Context → Outcome Answer Context
load_unit p c = transfer_unit p.sides 4 (load_element p) (zero_element p.sides) c
