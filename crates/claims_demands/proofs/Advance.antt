-- A unit that pauses goes up by at least one position.
use Prim.Native.Nat.{ℕ, ◌+◌, ◌<◌, ◌≤◌}
use mathlib.Core.Path.{◌≡◌, refl, sym}
use mathlib.Core.Logic.{inl, inr}
use mathlib.Core.Bool.{Bool, true, false, cond, ◌||◌, true≢false}
use native.Mathlib.Omega.{arith}
use lib.Dec.{ltb}
use Rattle.answers.specs.declared.Answer.TheVariants.{Done}
use Rattle.answers.specs.Answer.{pauses}
use Rattle.walk_operands.specs.Mask.{is_on}
use Rattle.walk_pairs.specs.declared.Side.{Side}
use Rattle.walk_pairs.specs.declared.Pair.{Pair}
use Rattle.walk_pairs.specs.declared.Pair.TheVariants.{Found, Zeroed, End}
use Rattle.walk_pairs.specs.Side.{start, next, past}
use Rattle.walk_pairs.specs.Pair.{Meets}
use Rattle.walk_pairs.proofs.Found.{pair_rest, rests_from}
use Rattle.walk_pausable.specs.Outcome.{Paused}
use Rattle.walk_operations.specs.declared.position.Fault.{Fault}
use Rattle.walk_operations.specs.declared.position.Fault.TheVariants.{Misaligned, Outside}
use Rattle.walk_operations.specs.declared.position.Position.{Position}
use Rattle.walk_operations.specs.declared.position.Ran.{Ran}
use Rattle.walk_operations.specs.declared.operation.OperationPlan.{OperationPlan}
use Rattle.walk_transfers.specs.declared.sides.Sides.{Sides}
use Rattle.walk_operations.specs.Context.{Context, fault_answer, pausing}
use Rattle.walk_operations.specs.Operation.{go_on, after_on, position_after, operation_unit}
use Rattle.walk_transfers.specs.Transfer.{Transferred, moved, refused, Element, started, pair_of}
use Rattle.walk_transfers.specs.Transfer.{after_pair, after_transfer, at_pair, transfer_unit}
use Rattle.bits.proofs.Booleans.{by_cond, or_false}

-- an answer is a pause only where the position has gone up, by some count of positions
abbrev pub Rises : (Position → ℕ) → Position → Ran → Type 0
Rises count position ran = pauses ran.answer ≡ true → count position < count ran.position

done_ends : (value : ℕ) → pauses (Done value) ≡ true → ⊥
unfolding pauses
done_ends value e = true≢false (sym e)

fault_ends : (fault : Fault) (address : ℕ) → pauses (fault_answer fault address) ≡ true → ⊥
unfolding pauses
fault_ends Misaligned address e = true≢false (sym e)
fault_ends Outside address e = true≢false (sym e)

-- an operation counts by its destination offset
module _ (vl : ℕ) (position : Position) where
  abbrev RisesFrom : Ran → Type 0
  RisesFrom = Rises (λ x. x.destination) position

  go_on_rises : RisesFrom (go_on vl position position.destination)
  unfolding go_on
  go_on_rises =
      by_cond RisesFrom (ltb (position.destination + 1) vl) (λ e q. omega arith) (λ e q. absurd (done_ends 0 q))

  after_on_rises : (vector : Bool) → RisesFrom (after_on vl vector position position.destination)
  unfolding after_on
  after_on_rises vector = by_cond RisesFrom vector (λ e. go_on_rises) (λ e q. absurd (done_ends 0 q))

pub operation_rises :
    (p : OperationPlan) (c : Context) → Paused pausing (operation_unit p c) →
    c.position.destination < (operation_unit p c).state.position.destination
unfolding operation_unit position_after
operation_rises p c =
    by_cond (RisesFrom p.vl c.position) (is_on p.mask c.position.destination)
    (λ e. after_on_rises p.vl c.position p.destination.vector) (λ e. go_on_rises p.vl c.position)

-- the others count by their source side if it walks, and by the destination side if not
abbrev pub counted : Sides → Position → ℕ
counted s position = cond s.source.walks position.source position.destination

-- an instruction that goes on has a side that walks
abbrev pub Goes : Sides → Type 0
Goes s = s.single ≡ false → s.source.walks ≡ false → s.destination.walks ≡ true

-- a side that walks goes up from where it started
side_rises : (s : Side) (offset i : ℕ) → s.walks ≡ true → start s offset ≤ i → offset < next s i
unfolding start next
side_rises s offset i w = rw w (λ h. omega arith)

module _ (s : Sides) (goes : Goes s) (bytes : ℕ) (position : Position) where
  pair_rises :
      (i j : ℕ) → start s.source position.source ≤ i → start s.destination position.destination ≤ j →
      Rises (counted s) position (after_pair s bytes position i j)
  unfolding after_pair
  pair_rises i j h k =
      let one = past s.source s.vl (next s.source i) in
      let two = past s.destination s.vl (next s.destination j) in
      by_cond (Rises (counted s) position) (s.single || one || two) (λ e q. absurd (done_ends 0 q))
      (λ e q. by (or_false s.single one (or_false (s.single || one) two e).0).0 s.source.walks refl)
    where
      by :
          s.single ≡ false → (t : Bool) → s.source.walks ≡ t →
          cond t position.source position.destination < cond t (next s.source i) (next s.destination j)
      by single true w = side_rises s.source position.source i w h
      by single false w = side_rises s.destination position.destination j (goes single w) k

pub transfer_rises :
    (s : Sides) → Goes s → (bytes : ℕ) (transfer zero : Element) (c : Context) →
    Paused pausing (transfer_unit s bytes transfer zero c) →
    counted s c.position < counted s (transfer_unit s bytes transfer zero c).state.position
unfolding transfer_unit
transfer_rises s goes bytes transfer zero c = by (pair_of s c.position) refl
  where
    at :
        (i j : ℕ) → Meets (pair_of s c.position) i j → (t : Transferred) →
        Paused pausing (after_transfer s bytes c i j t) →
        counted s c.position < counted s (after_transfer s bytes c i j t).state.position
    at i j met (moved after memory) = unfold after_transfer pair_of started in
        let r = pair_rest s.source s.destination s.vl (start s.source c.position.source)
        (start s.destination c.position.destination) i j met in
        pair_rises s goes bytes c.position i j (rests_from r.source) (rests_from r.destination)
    at i j met (refused fault address) = unfold after_transfer in λ q. absurd (fault_ends fault address q)

    by :
        (q : Pair) → pair_of s c.position ≡ q → Paused pausing (at_pair s bytes transfer zero c q) →
        counted s c.position < counted s (at_pair s bytes transfer zero c q).state.position
    by End e = unfold at_pair in λ q. absurd (done_ends 0 q)
    by (Found i j) e = unfold at_pair in at i j (inl e) (transfer c i j)
    by (Zeroed i j) e = unfold at_pair in at i j (inr e) (zero c i j)
