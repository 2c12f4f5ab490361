-- What an access answers: 9 and 5 each have exactly their condition.
use Prim.Native.Nat.{ℕ, ◌+◌, ◌%◌}
use mathlib.Core.Path.{◌≡◌, refl, sym, ◌∙◌}
use mathlib.Core.Bool.{Bool, true, false, cond, true≢false, ◌||◌}
use native.Mathlib.Omega.{arith}
use borrow.Author.Tests.{eqb-true, eqb-false, leb-true, leb-false}
use lib.Dec.{eqb}
use lib.ListN.{length}
use Rattle.bits.proofs.Booleans.{by_cond, or_false}
use Rattle.answers.specs.declared.Answer.{Answer}
use Rattle.answers.specs.Answer.{number_of}
use Rattle.memory.specs.Access.{inside}
use Rattle.walk_pairs.specs.Side.{next, past}
use Rattle.walk_operations.specs.declared.position.Fault.TheVariants.{Misaligned, Outside}
use Rattle.walk_operations.specs.declared.position.Position.{Position}
use Rattle.walk_operations.specs.declared.position.Ran.{Ran}
use Rattle.walk_operations.specs.Context.{Context, fault_answer}
use Rattle.walk_transfers.specs.declared.sides.Sides.{Sides}
use Rattle.walk_transfers.specs.Transfer.{Transferred, moved, refused}
use Rattle.walk_transfers.specs.Transfer.{after_pair, after_transfer}
use Rattle.walk_accesses.specs.Alignment.{aligned, where_aligned}
use Rattle.claims_demands.specs.Faults.{faults, Access, Divisible, FaultedBy}
use Rattle.claims_demands.proofs.Exactly.{both, neither}

-- an answer that is no memory fault
abbrev pub Serves : Answer → Type 0
Serves a = faults a ≡ false

pub after_pair_served :
    (s : Sides) (bytes : ℕ) (position : Position) (i j : ℕ) → Serves (after_pair s bytes position i j).answer
unfolding after_pair
after_pair_served s bytes position i j =
    by_cond (λ (r : Ran). Serves r.answer)
    (s.single || past s.source s.vl (next s.source i)
    || past s.destination s.vl (next s.destination j))
    (λ e. refl) (λ e. refl)

-- what memory makes of an access, by whether it lies wholly in it
abbrev pub ByMemory : ℕ → Transferred → Bool → Type 0
ByMemory address (moved registers memory) whole = whole ≡ true
ByMemory address (refused fault at) whole = (whole ≡ false) × (fault ≡ Outside) × (at ≡ address)

module _ (size : ℕ) (a : Access) where
  misaligned_by : (Divisible a → ⊥) → FaultedBy size a (fault_answer Misaligned a.address)
  misaligned_by n =
      record { misaligned = both refl n; outside = neither (λ e. omega (arith, e)) (λ o. n o.0); address = λ e. refl }

  outside_by :
      Divisible a → inside size a.address a.bytes ≡ false →
      FaultedBy size a (fault_answer Outside a.address)
  unfolding inside
  outside_by d whole = record {
    misaligned = neither (λ e. omega (arith, e)) (λ n. n d);
    outside = both refl (d, leb-false (a.address + a.bytes) size whole);
    address = λ e. refl;
  }

  served_by :
      (answer : Answer) → Serves answer → Divisible a → inside size a.address a.bytes ≡ true →
      FaultedBy size a answer
  unfolding inside
  served_by answer s d whole =
      let f = or_false (eqb (number_of answer) 5) (eqb (number_of answer) 9) s in
      let h = leb-true (a.address + a.bytes) size whole in
      record {
        misaligned = neither (eqb-false (number_of answer) 9 f.1) (λ n. n d);
        outside = neither (eqb-false (number_of answer) 5 f.0) (λ o. omega (arith, h, o.1));
        address = λ e. absurd (true≢false (sym e ∙ s));
      }

module _ (s : Sides) (bytes : ℕ) (c : Context) (i j : ℕ) (a : Access) where
  pub faulted_at :
      (t : Transferred) → ByMemory a.address t (inside (length c.memory) a.address a.bytes) →
      FaultedBy (length c.memory) a
      (after_transfer s bytes c i j (where_aligned a.address a.bytes t)).answer
  unfolding where_aligned aligned
  faulted_at t memory = by_address (eqb (a.address % a.bytes) 0) refl
    where
      by_memory :
          Divisible a → (t : Transferred) →
          ByMemory a.address t (inside (length c.memory) a.address a.bytes) →
          FaultedBy (length c.memory) a (after_transfer s bytes c i j t).answer
      by_memory d (moved registers after) whole = unfold after_transfer in
          served_by (length c.memory) a _ (after_pair_served s bytes c.position i j) d whole
      by_memory d (refused fault at) (whole, kind, same) = unfold after_transfer in
          rw (kind, same) (outside_by (length c.memory) a d whole)

      by_address :
          (b : Bool) → eqb (a.address % a.bytes) 0 ≡ b →
          FaultedBy (length c.memory) a
          (after_transfer s bytes c i j (cond b t (refused Misaligned a.address))).answer
      by_address true e = by_memory (eqb-true (a.address % a.bytes) 0 e) t memory
      by_address false e = unfold after_transfer in
          misaligned_by (length c.memory) a (eqb-false (a.address % a.bytes) 0 e)
