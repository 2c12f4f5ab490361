-- The access of a unit of a load or a store.
use Prim.Native.Nat.{ℕ}
use mathlib.Core.Path.{refl}
use mathlib.Core.Bool.{Bool, true, false, cond}
use lib.ListN.{length}
use Rattle.std.specs.Prelude.{Result, Ok, Err}
use Rattle.memory.specs.declared.access.Outside.{Outside}
use Rattle.memory.specs.Access.{inside, located}
use Rattle.memory.specs.Transfer.{loaded_from, loaded, answer_to, store_answer}
use Rattle.scalar.specs.Width.{bytes_of}
use Rattle.walk_pairs.specs.declared.Pair.{Pair}
use Rattle.walk_pairs.specs.declared.Pair.TheVariants.{Found, Zeroed, End}
use Rattle.walk_operations.specs.Context.{Context}
use Rattle.walk_transfers.specs.Moving.{zero_element}
use Rattle.walk_transfers.specs.Transfer.{pair_of, at_pair, transfer_unit}
use Rattle.walk_accesses.specs.declared.loading.LoadPlan.{LoadPlan}
use Rattle.walk_accesses.specs.declared.storing.StorePlan.{StorePlan}
use Rattle.walk_accesses.specs.Loading.{widened, load_value, loaded_to, load_element, load_unit}
use Rattle.walk_accesses.specs.Storing.{stored_to, store_value, store_element, store_zero, store_unit}
use Rattle.walk_handler.specs.Prepare.{Plan, operation, move, load, store}
use Rattle.walk_handler.specs.Unit.{unit_of}
use Rattle.claims_demands.specs.Faults.{Access, AccessAt, FaultedBy}
use Rattle.claims_demands.specs.Run.{pair_at}
use Rattle.claims_demands.proofs.Accesses.{ByMemory, faulted_at}

load_by_memory :
    (p : LoadPlan) (c : Context) (address j : ℕ) →
    ByMemory address (loaded_to p c address j (load_value c.memory address p.width p.signed))
    (inside (length c.memory) address (bytes_of p.width))
unfolding load_value loaded located
load_by_memory p c address j = by (inside (length c.memory) address (bytes_of p.width))
  where
    by :
        (whole : Bool) →
        ByMemory address
        (loaded_to p c address j
        (widened p.signed p.width
        (loaded_from c.memory (bytes_of p.width) (cond {A = Result ℕ Outside} whole (Ok address) (Err record {}))))) whole
    by true = refl
    by false = (refl, refl, refl)

store_by_memory :
    (p : StorePlan) (c : Context) (address value : ℕ) →
    ByMemory address (stored_to p c address value (store_answer c.memory address (bytes_of p.width)))
    (inside (length c.memory) address (bytes_of p.width))
unfolding store_answer located
store_by_memory p c address value = by (inside (length c.memory) address (bytes_of p.width))
  where
    by :
        (whole : Bool) →
        ByMemory address
        (stored_to p c address value (answer_to (cond {A = Result ℕ Outside} whole (Ok address) (Err record {})))) whole
    by true = refl
    by false = (refl, refl, refl)

module _ (c : Context) (a : Access) where
  load_faulted_by :
      (p : LoadPlan) (q : Pair) → AccessAt (load p) c.registers q a →
      FaultedBy (length c.memory) a (at_pair p.sides 4 (load_element p) (zero_element p.sides) c q).answer
  load_faulted_by p (Found i j) at = unfold at_pair load_element in
      rw at (faulted_at p.sides 4 c i j _ _ (load_by_memory p c _ j))
  load_faulted_by p (Zeroed i j) at = absurd at
  load_faulted_by p End at = absurd at

  store_faulted_by :
      (p : StorePlan) (q : Pair) → AccessAt (store p) c.registers q a →
      FaultedBy (length c.memory) a (at_pair p.sides 4 (store_element p) (store_zero p) c q).answer
  store_faulted_by p (Found i j) at = unfold at_pair store_element store_value in
      rw at (faulted_at p.sides 4 c i j _ _ (store_by_memory p c _ _))
  store_faulted_by p (Zeroed i j) at = unfold at_pair store_zero store_value in
      rw at (faulted_at p.sides 4 c i j _ _ (store_by_memory p c _ _))
  store_faulted_by p End at = absurd at

  pub unit_faulted_by :
      (plan : Plan) → AccessAt plan c.registers (pair_at plan c.position) a →
      FaultedBy (length c.memory) a (unit_of plan c).answer
  unit_faulted_by (operation p) at = absurd at
  unit_faulted_by (move s) at = absurd at
  unit_faulted_by (load p) at = unfold load_unit transfer_unit in load_faulted_by p (pair_of p.sides c.position) at
  unit_faulted_by (store p) at =
      unfold store_unit transfer_unit in store_faulted_by p (pair_of p.sides c.position) at
