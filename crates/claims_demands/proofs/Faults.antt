-- A unit that faults changes nothing but the offsets, which stand at its pair.
use Prim.Native.Nat.{ℕ, ◌+◌}
use mathlib.Core.Path.{◌≡◌, refl, sym, ◌∙◌}
use mathlib.Core.Logic.{inl, inr}
use mathlib.Core.Bool.{Bool, true, true≢false}
use lib.Dec.{ltb}
use lib.ListN.{length}
use Rattle.bits.proofs.Booleans.{by_cond}
use Rattle.answers.specs.declared.Answer.{Answer}
use Rattle.walk_operands.specs.Mask.{is_on}
use Rattle.walk_pairs.specs.declared.Pair.{Pair}
use Rattle.walk_pairs.specs.declared.Pair.TheVariants.{Found, Zeroed, End}
use Rattle.walk_pairs.specs.Pair.{Meets}
use Rattle.walk_pausable.specs.Outcome.{Outcome}
use Rattle.walk_operations.specs.declared.position.Position.{Position}
use Rattle.walk_operations.specs.declared.position.Ran.{Ran}
use Rattle.walk_operations.specs.declared.operation.OperationPlan.{OperationPlan}
use Rattle.walk_operations.specs.Context.{Context, context, at_offsets}
use Rattle.walk_operations.specs.Operation.{go_on, after_on, position_after, operation_unit}
use Rattle.walk_transfers.specs.declared.sides.Sides.{Sides}
use Rattle.walk_transfers.specs.Moving.{move_unit, move_element, zero_element}
use Rattle.walk_transfers.specs.Transfer.{Transferred, moved, refused, pair_of, after_transfer, at_pair, transfer_unit}
use Rattle.walk_accesses.specs.declared.loading.LoadPlan.{LoadPlan}
use Rattle.walk_accesses.specs.declared.storing.StorePlan.{StorePlan}
use Rattle.walk_accesses.specs.Loading.{load_unit, load_element}
use Rattle.walk_accesses.specs.Storing.{store_unit, store_element, store_zero}
use Rattle.walk_handler.specs.Prepare.{Plan, operation, move, load, store}
use Rattle.walk_handler.specs.Unit.{unit_of}
use Rattle.claims_demands.specs.Faults.{faults, Access, access_by, AccessAt, FaultedBy}
use Rattle.claims_demands.specs.Run.{pair_at}
use Rattle.claims_demands.proofs.Accesses.{Serves, after_pair_served}
use Rattle.claims_demands.proofs.UnitAccesses.{unit_faulted_by}

-- the context stands at the pair, and its access is why
pub record AtFault (plan : Plan) (c : Context) (o : Outcome Answer Context) : Type 0 where
  pub source : ℕ
  pub destination : ℕ
  pub met : Meets (pair_at plan c.position) source destination
  pub stands : o.state ≡ context c.registers c.memory (at_offsets c.position source destination)
  pub access : Access
  pub accessed : AccessAt plan c.registers (pair_at plan c.position) access
  pub why : FaultedBy (length c.memory) access o.answer

abbrev RanServes : Ran → Type 0
RanServes ran = Serves ran.answer

module _ (vl : ℕ) (position : Position) (i : ℕ) where
  go_on_served : RanServes (go_on vl position i)
  unfolding go_on
  go_on_served = by_cond RanServes (ltb (i + 1) vl) (λ e. refl) (λ e. refl)

  after_on_served : (vector : Bool) → RanServes (after_on vl vector position i)
  unfolding after_on
  after_on_served vector = by_cond RanServes vector (λ e. go_on_served) (λ e. refl)

operation_served : (p : OperationPlan) (c : Context) → Serves (operation_unit p c).answer
unfolding operation_unit position_after
operation_served p c =
    let i = c.position.destination in
    by_cond RanServes (is_on p.mask i) (λ e. after_on_served p.vl c.position i p.destination.vector)
    (λ e. go_on_served p.vl c.position i)

zero_served :
    (s : Sides) (bytes : ℕ) (c : Context) (i j : ℕ) → Serves (after_transfer s bytes c i j (zero_element s c i j)).answer
unfolding zero_element after_transfer
zero_served s bytes c i j = after_pair_served s bytes c.position i j

move_served : (s : Sides) (c : Context) → Serves (move_unit s c).answer
unfolding move_unit transfer_unit
move_served s c = by (pair_of s c.position)
  where
    by : (q : Pair) → Serves (at_pair s 2 (move_element s) (zero_element s) c q).answer
    by End = unfold at_pair in refl
    by (Found i j) = unfold at_pair after_transfer move_element in after_pair_served s 2 c.position i j
    by (Zeroed i j) = unfold at_pair in zero_served s 2 c i j

-- where a unit of a load or a store faults
record AtPair (pair : Pair) (c d : Context) : Type 0 where
  source : ℕ
  destination : ℕ
  met : Meets pair source destination
  stands : d ≡ context c.registers c.memory (at_offsets c.position source destination)

module _ (s : Sides) (bytes : ℕ) (c : Context) where
  transfer_fault :
      (q : Pair) (i j : ℕ) → Meets q i j → (t : Transferred) → faults (after_transfer s bytes c i j t).answer ≡ true →
      AtPair q c (after_transfer s bytes c i j t).state
  unfolding after_transfer
  transfer_fault q i j met (moved after memory) f =
      absurd (true≢false (sym f ∙ after_pair_served s bytes c.position i j))
  transfer_fault q i j met (refused fault address) f =
      record { source = i; destination = j; met = met; stands = refl }

-- with the access of the pair
record AtAccess (plan : Plan) (q : Pair) (c d : Context) : Type 0 where
  pair : AtPair q c d
  access : Access
  accessed : AccessAt plan c.registers q access

load_fault :
    (p : LoadPlan) (c : Context) (q : Pair) →
    let o = at_pair p.sides 4 (load_element p) (zero_element p.sides) c q in
    faults o.answer ≡ true → AtAccess (load p) q c o.state
load_fault p c End = unfold at_pair in λ f. absurd (true≢false (sym f))
load_fault p c (Found i j) = unfold at_pair in λ f. record {
  pair = transfer_fault p.sides 4 c (Found i j) i j (inl refl) (load_element p c i j) f;
  access = access_by p.sides.source.place p.offset p.width c.registers i;
  accessed = refl;
}
load_fault p c (Zeroed i j) = unfold at_pair in
    λ f. absurd (true≢false (sym f ∙ zero_served p.sides 4 c i j))

store_fault :
    (p : StorePlan) (c : Context) (q : Pair) →
    let o = at_pair p.sides 4 (store_element p) (store_zero p) c q in
    faults o.answer ≡ true → AtAccess (store p) q c o.state
store_fault p c End = unfold at_pair in λ f. absurd (true≢false (sym f))
store_fault p c (Found i j) = unfold at_pair in λ f. record {
  pair = transfer_fault p.sides 4 c (Found i j) i j (inl refl) (store_element p c i j) f;
  access = access_by p.sides.destination.place p.offset p.width c.registers j;
  accessed = refl;
}
store_fault p c (Zeroed i j) = unfold at_pair in λ f. record {
  pair = transfer_fault p.sides 4 c (Zeroed i j) i j (inr refl) (store_zero p c i j) f;
  access = access_by p.sides.destination.place p.offset p.width c.registers j;
  accessed = refl;
}

at_fault :
    (plan : Plan) (c : Context) → AtAccess plan (pair_at plan c.position) c (unit_of plan c).state →
    AtFault plan c (unit_of plan c)
at_fault plan c at = record {
  source = at.pair.source;
  destination = at.pair.destination;
  met = at.pair.met;
  stands = at.pair.stands;
  access = at.access;
  accessed = at.accessed;
  why = unit_faulted_by c at.access plan at.accessed;
}

pub unit_fault : (plan : Plan) (c : Context) → faults (unit_of plan c).answer ≡ true → AtFault plan c (unit_of plan c)
unit_fault (operation p) c f = absurd (true≢false (sym f ∙ operation_served p c))
unit_fault (move s) c f = absurd (true≢false (sym f ∙ move_served s c))
unit_fault (load p) c f =
    at_fault (load p) c (unfold load_unit transfer_unit in load_fault p c (pair_of p.sides c.position) f)
unit_fault (store p) c f =
    at_fault (store p) c (unfold store_unit transfer_unit in store_fault p c (pair_of p.sides c.position) f)
