-- What a load and a store move at a pair, by the test of the address.
use Rattle.std.proofs.Common.{◌≡◌, ℕ, true, false, refl, ap}
use Rattle.memory.specs.Transfer.{store_answer}
use Rattle.scalar.specs.Width.{bytes_of}
use Rattle.walk_accesses.specs.declared.loading.LoadPlan.{LoadPlan}
use Rattle.walk_accesses.specs.declared.storing.StorePlan.{StorePlan}
use Rattle.walk_operations.specs.declared.position.Fault.TheVariants.{Misaligned}
use Rattle.walk_operations.specs.declared.position.Position.{Position}
use Rattle.walk_operations.specs.Context.{Context, context}
use Rattle.std.specs.Prelude.{⊤, Result, Ok, Err}
use Rattle.memory.specs.declared.access.Outside.{Outside}
use Rattle.walk_accesses.specs.Alignment.{aligned, where_aligned}
use Rattle.walk_accesses.specs.Loading.{address_at, load_value, loaded_to, load_element, load_unit}
use Rattle.walk_accesses.specs.Storing.{stored_to, store_value, store_element, store_zero, store_unit}
use Rattle.walk_operations.specs.Plan.{SameWalk}
use Rattle.walk_transfers.specs.Moving.{zero_element}
use Rattle.walk_transfers.specs.Transfer.{Transferred, refused, started}
use Rattle.walk_transfers.proofs.Walks.{same_started}

-- an access by the test of its address
module _ (address bytes : ℕ) (served : Transferred) where
  pub where_misaligned : aligned address bytes ≡ false → where_aligned address bytes served ≡ refused Misaligned address
  unfolding where_aligned
  where_misaligned e = rw e

  pub where_aligned-aligned : aligned address bytes ≡ true → where_aligned address bytes served ≡ served
  unfolding where_aligned
  where_aligned-aligned e = rw e

-- an element whose address is known, before what memory answers is
pub load_element-at :
    (p : LoadPlan) (c : Context) (i j address : ℕ) →
    address ≡ address_at p.sides.source.place p.offset p.width c.registers i →
    load_element p c i j
    ≡ where_aligned address (bytes_of p.width)
    (loaded_to p c address j (load_value c.memory address p.width p.signed))
unfolding load_element
load_element-at p c i j address at = rw (← at)

pub store_value-at :
    (p : StorePlan) (c : Context) (j value address : ℕ) →
    address ≡ address_at p.sides.destination.place p.offset p.width c.registers j →
    store_value p c j value
    ≡ where_aligned address (bytes_of p.width)
    (stored_to p c address value (store_answer c.memory address (bytes_of p.width)))
unfolding store_value
store_value-at p c j value address at = rw (← at)

-- an element goes by registers and memory alone
module _ (c : Context) (position : Position) where
  pub load_anywhere :
      (p : LoadPlan) (i j : ℕ) → load_element p (context c.registers c.memory position) i j ≡ load_element p c i j
  unfolding load_element
  load_anywhere p i j =
      let address = address_at p.sides.source.place p.offset p.width c.registers i in
      ap (where_aligned address (bytes_of p.width))
      (by address (load_value c.memory address p.width p.signed))
    where
      by :
          (address : ℕ) (l : Result ℕ Outside) →
          loaded_to p (context c.registers c.memory position) address j l ≡ loaded_to p c address j l
      by address (Ok value) = refl
      by address (Err outside) = refl

  pub store_anywhere :
      (p : StorePlan) (j value : ℕ) →
      store_value p (context c.registers c.memory position) j value ≡ store_value p c j value
  unfolding store_value
  store_anywhere p j value =
      let address = address_at p.sides.destination.place p.offset p.width c.registers j in
      ap (where_aligned address (bytes_of p.width))
      (by address (store_answer c.memory address (bytes_of p.width)))
    where
      by :
          (address : ℕ) (a : Result ⊤ Outside) →
          stored_to p (context c.registers c.memory position) address value a ≡ stored_to p c address value a
      by address (Ok done) = refl
      by address (Err outside) = refl

-- and so do the walks
pub load_started :
    (p : LoadPlan) (position : Position) {start : Position} → start ≡ started p.sides position →
    SameWalk (load_unit p) position start
unfolding load_unit
load_started p position e =
    same_started p.sides 4 (load_element p) (zero_element p.sides)
    (λ c. load_anywhere c _ p) (λ c i j. unfold zero_element in refl) position e

pub store_started :
    (p : StorePlan) (position : Position) {start : Position} → start ≡ started p.sides position →
    SameWalk (store_unit p) position start
unfolding store_unit
store_started p position e =
    same_started p.sides 4 (store_element p) (store_zero p)
    (λ c i j. unfold store_element in store_anywhere c _ p j _)
    (λ c i j. unfold store_zero in store_anywhere c _ p j 0) position e
