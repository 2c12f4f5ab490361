-- A unit of the plan of a word writes only the registers that the word may write.
use Prim.Native.Nat.{ℕ}
use mathlib.Core.Logic.{inl}
use mathlib.Core.Path.{◌≡◌, refl}
use mathlib.Core.List.{List}
use native.Mathlib.Omega.{arith}
use Rattle.decode.specs.declared.decoded.Decoded.{Decoded}
use Rattle.decode.specs.declared.decoded.Decoded.TheVariants.{Operation, Move, Load, Store, Unknown}
use Rattle.std.specs.Prelude.{⊤, Result, Ok, Err}
use Rattle.memory.specs.declared.access.Outside.{Outside}
use Rattle.memory.specs.Transfer.{store_answer}
use Rattle.scalar.specs.Width.{bytes_of}
use Rattle.walk_operands.specs.Place.{register_at}
use Rattle.walk_pausable.specs.Call.{ready}
use Rattle.walk_accesses.specs.declared.loading.LoadPlan.{LoadPlan}
use Rattle.walk_accesses.specs.declared.storing.StorePlan.{StorePlan}
use Rattle.walk_transfers.specs.declared.sides.Sides.{Sides}
use Rattle.walk_operations.specs.Context.{Context}
use Rattle.walk_transfers.specs.SidesReady.{Within}
use Rattle.walk_transfers.specs.Moving.{move_element, zero_element, move_unit}
use Rattle.walk_transfers.specs.Transfer.{Transferred}
use Rattle.walk_accesses.specs.Alignment.{aligned, where_aligned}
use Rattle.walk_accesses.specs.Loading.{address_at, load_value, load_element, load_unit, loaded_to}
use Rattle.walk_accesses.specs.Storing.{store_value, store_element, store_zero, store_unit, stored_to}
use Rattle.walk_plans.specs.Plan.{operation_plan, move_plan, load_plan, store_plan}
use Rattle.walk_handler.specs.Prepare.{Plan, operation, move, load, store, prepared}
use Rattle.walk_handler.specs.Unit.{unit_of}
use Rattle.walk_handler.proofs.Served.{served_plan}
use Rattle.bits.proofs.Booleans.{by_cond}
use Rattle.claims_demands.specs.Premise.{MayWrite}
use Rattle.claims_demands.proofs.RegistersKept.{unwritten, one_written}
use Rattle.claims_demands.proofs.Units.{UnitSound, operation_sound}
use Rattle.claims_demands.proofs.TransferUnits.{transfer_sound, TransferKept}

module _ (Writes : ℕ → Type 0) (c : Context) where
  move_kept :
      (s : Sides) (i j : ℕ) → Writes (register_at s.destination.place j) →
      TransferKept Writes c.registers (move_element s c i j)
  unfolding move_element
  move_kept s i j w = one_written c.registers (register_at s.destination.place j) _ w

  zero_kept :
      (s : Sides) (i j : ℕ) → Writes (register_at s.destination.place j) →
      TransferKept Writes c.registers (zero_element s c i j)
  unfolding zero_element
  zero_kept s i j w = one_written c.registers (register_at s.destination.place j) 0 w

  -- an access that is refused writes no register
  where_aligned_kept :
      (address bytes : ℕ) (t : Transferred) → TransferKept Writes c.registers t →
      TransferKept Writes c.registers (where_aligned address bytes t)
  unfolding where_aligned
  where_aligned_kept address bytes t k =
      by_cond (TransferKept Writes c.registers) (aligned address bytes) (λ e. k) (λ e. tt)

  load_kept :
      (p : LoadPlan) (i j : ℕ) → Writes (register_at p.sides.destination.place j) →
      TransferKept Writes c.registers (load_element p c i j)
  unfolding load_element
  load_kept p i j w =
      let address = address_at p.sides.source.place p.offset p.width c.registers i in
      where_aligned_kept address (bytes_of p.width) _
      (by address (load_value c.memory address p.width p.signed))
    where
      by : (address : ℕ) (l : Result ℕ Outside) → TransferKept Writes c.registers (loaded_to p c address j l)
      by address (Ok value) = one_written c.registers (register_at p.sides.destination.place j) _ w
      by address (Err outside) = tt

  store_kept : (p : StorePlan) (j value : ℕ) → TransferKept Writes c.registers (store_value p c j value)
  unfolding store_value
  store_kept p j value =
      let address = address_at p.sides.destination.place p.offset p.width c.registers j in
      where_aligned_kept address (bytes_of p.width) _
      (by address (store_answer c.memory address (bytes_of p.width)))
    where
      by : (address : ℕ) (s : Result ⊤ Outside) → TransferKept Writes c.registers (stored_to p c address value s)
      by address (Ok done) = unwritten c.registers
      by address (Err outside) = tt

module _ (vl : ℕ) (registers : List ℕ) (c : Context) (within : Within vl c.position) where
  pub unit_sound :
      (word : Decoded) (plan : Plan) → prepared vl registers word ≡ ready plan →
      UnitSound (MayWrite vl word) c.registers (unit_of plan c)
  unfolding prepared
  unit_sound (Operation w) plan e =
      rw (served_plan vl (Operation w) (operation (operation_plan vl registers w)) plan e)
      (unfold operation_plan in
      operation_sound (operation_plan vl registers w) (MayWrite vl (Operation w)) c within.destination
      (λ i h. inl (record { position = i; below = omega (arith, h); register = refl })))
  unit_sound (Move w) plan e =
      rw (served_plan vl (Move w) (move (move_plan vl registers w)) plan e)
      (unfold move_plan move_unit in
      transfer_sound (move_plan vl registers w) 2 (MayWrite vl (Move w)) c within (move_element (move_plan vl registers w))
      (zero_element (move_plan vl registers w))
      (λ i j h k. move_kept (MayWrite vl (Move w)) c (move_plan vl registers w) i j
      (inl (record { position = j; below = omega (arith, k); register = refl })))
      (λ i j h k. zero_kept (MayWrite vl (Move w)) c (move_plan vl registers w) i j
      (inl (record { position = j; below = omega (arith, k); register = refl }))))
  unit_sound (Load w) plan e =
      let made = load_plan vl registers w in
      rw (served_plan vl (Load w) (load made) plan e)
      (unfold load_plan load_unit in
      transfer_sound made.sides 4 (MayWrite vl (Load w)) c within (load_element made) (zero_element made.sides)
      (λ i j h k. load_kept (MayWrite vl (Load w)) c made i j
      (inl (record { position = j; below = omega (arith, k); register = refl })))
      (λ i j h k. zero_kept (MayWrite vl (Load w)) c made.sides i j
      (inl (record { position = j; below = omega (arith, k); register = refl }))))
  unit_sound (Store w) plan e =
      let made = store_plan vl registers w in
      rw (served_plan vl (Store w) (store made) plan e)
      (unfold store_plan store_unit in
      transfer_sound made.sides 4 (MayWrite vl (Store w)) c within (store_element made) (store_zero made)
      (λ i j h k. unfold store_element in store_kept (MayWrite vl (Store w)) c made j _)
      (λ i j h k. unfold store_zero in store_kept (MayWrite vl (Store w)) c made j 0))
  unit_sound Unknown plan e = let z : ◌≡◌ {A = ℕ} 0 1 = cc in absurd (omega arith)
