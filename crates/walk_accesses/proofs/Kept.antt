-- What a walk leaves as it was: a load the memory, a store the registers.
use Rattle.std.proofs.Common.{◌≡◌, ℕ, List, refl}
use Rattle.std.specs.Prelude.{⊤, Result, Ok, Err}
use Rattle.memory.specs.declared.access.Outside.{Outside}
use Rattle.walk_pausable.specs.Walk.{walk}
use Rattle.walk_pausable.proofs.Invariant.{walk_keeps}
use Rattle.walk_pairs.specs.declared.Pair.{Pair}
use Rattle.walk_pairs.specs.declared.Pair.TheVariants.{Found, Zeroed, End}
use Rattle.walk_operations.specs.Context.{Context, pausing}
use Rattle.walk_transfers.specs.declared.sides.Sides.{Sides}
use Rattle.walk_transfers.specs.Moving.{zero_element}
use Rattle.walk_transfers.specs.Transfer.{Transferred, moved, refused, Element, pair_of, after_transfer, at_pair, transfer_unit}
use Rattle.walk_accesses.specs.declared.loading.LoadPlan.{LoadPlan}
use Rattle.walk_accesses.specs.declared.storing.StorePlan.{StorePlan}
use Rattle.walk_accesses.specs.Alignment.{aligned, where_aligned}
use Rattle.walk_accesses.specs.Loading.{address_at, load_value, loaded_to, load_element, load_unit}
use Rattle.walk_accesses.specs.Storing.{stored_to, store_value, store_element, store_zero, store_unit}
use Rattle.bits.proofs.Booleans.{by_cond}
use Rattle.memory.specs.Transfer.{store_answer}
use Rattle.scalar.specs.Width.{bytes_of}

-- an element after which a fact about registers and memory still holds
abbrev Leaves : (Context → Type 0) → Transferred → Context → Type 0
Leaves Q (moved registers memory) c = Q (record { registers = registers; memory = memory; position = c.position })
Leaves Q (refused fault address) c = Q (record { registers = c.registers; memory = c.memory; position = c.position })

-- a fact that doesn't look at where the instruction stands
module _ (part : List ℕ → List ℕ → List ℕ) (kept : List ℕ) where
  abbrev Same : Context → Type 0
  Same c = part c.registers c.memory ≡ kept

  unit_keeps :
      (s : Sides) (bytes : ℕ) (transfer zero : Element) →
      ((c : Context) (i j : ℕ) → Same c → Leaves Same (transfer c i j) c) →
      ((c : Context) (i j : ℕ) → Same c → Leaves Same (zero c i j) c) →
      (c : Context) → Same c → Same (transfer_unit s bytes transfer zero c).state
  unfolding transfer_unit
  unit_keeps s bytes transfer zero one two c q = by (pair_of s c.position)
    where
      at : (i j : ℕ) (t : Transferred) → Leaves Same t c → Same (after_transfer s bytes c i j t).state
      at i j (moved registers memory) l = unfold after_transfer in l
      at i j (refused fault address) l = unfold after_transfer in l

      by : (p : Pair) → Same (at_pair s bytes transfer zero c p).state
      by End = unfold at_pair in q
      by (Found i j) = unfold at_pair in at i j (transfer c i j) (one c i j q)
      by (Zeroed i j) = unfold at_pair in at i j (zero c i j) (two c i j q)

pub load_unit_keeps_memory :
    (p : LoadPlan) (memory : List ℕ) (c : Context) → c.memory ≡ memory → (load_unit p c).state.memory ≡ memory
unfolding load_unit load_element where_aligned
load_unit_keeps_memory p kept =
    unit_keeps (λ registers memory. memory) kept p.sides 4 (load_element p) (zero_element p.sides) one
    (λ d i j q. unfold zero_element in q)
  where
    one :
        (d : Context) (i j : ℕ) → Same (λ registers memory. memory) kept d →
        Leaves (Same (λ registers memory. memory) kept) (load_element p d i j) d
    one d i j q =
        let address = address_at p.sides.source.place p.offset p.width d.registers i in
        by_cond (λ t. Leaves (Same (λ registers memory. memory) kept) t d) (aligned address (bytes_of p.width))
        (λ e. by address (load_value d.memory address p.width p.signed)) (λ e. q)
      where
        by :
            (address : ℕ) (l : Result ℕ Outside) →
            Leaves (Same (λ registers memory. memory) kept) (loaded_to p d address j l) d
        by address (Ok value) = q
        by address (Err outside) = q

pub load_keeps_memory :
    (p : LoadPlan) (n : ℕ) (c : Context) → (walk pausing (load_unit p) n c).state.memory ≡ c.memory
load_keeps_memory p n c =
    walk_keeps pausing (load_unit p) (λ d. d.memory ≡ c.memory) (load_unit_keeps_memory p c.memory) n c refl

pub store_keeps_registers :
    (p : StorePlan) (n : ℕ) (c : Context) → (walk pausing (store_unit p) n c).state.registers ≡ c.registers
unfolding store_unit store_value where_aligned
store_keeps_registers p n c =
    walk_keeps pausing _ (Same (λ registers memory. registers) c.registers)
    (unit_keeps (λ registers memory. registers) c.registers p.sides 4 (store_element p) (store_zero p)
    (λ d i j q. unfold store_element in value d j _ q) (λ d i j q. unfold store_zero in value d j 0 q)) n c refl
  where
    value :
        (d : Context) (j v : ℕ) → Same (λ registers memory. registers) c.registers d →
        Leaves (Same (λ registers memory. registers) c.registers) (store_value p d j v) d
    value d j v q =
        let address = address_at p.sides.destination.place p.offset p.width d.registers j in
        by_cond (λ t. Leaves (Same (λ registers memory. registers) c.registers) t d) (aligned address (bytes_of p.width))
        (λ e. by address (store_answer d.memory address (bytes_of p.width))) (λ e. q)
      where
        by :
            (address : ℕ) (a : Result ⊤ Outside) →
            Leaves (Same (λ registers memory. registers) c.registers) (stored_to p d address v a) d
        by address (Ok done) = q
        by address (Err outside) = q
