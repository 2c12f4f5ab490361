-- What a word that was prepared says of its plan, and when it is prepared alike again.
use Prim.Native.Nat.{ℕ}
use mathlib.Core.Logic.{inl, inr}
use mathlib.Core.Path.{◌≡◌, refl}
use mathlib.Core.Bool.{Bool, true, false, cond, not, ◌&&◌}
use mathlib.Core.List.{List}
use native.Mathlib.Omega.{arith}
use borrow.Author.Tests.{eqb-true, eqb-false, not-true}
use lib.Dec.{eqb}
use lib.ListN.{get_or}
use Rattle.answers.specs.declared.Answer.{Answer}
use Rattle.answers.specs.declared.Answer.TheVariants.{Done, UnknownWord, PastRegisters, BadWidth}
use Rattle.answers.specs.Answer.{number_of, value_of, accepts}
use Rattle.bits.specs.Lists.{all, Among}
use Rattle.bits.proofs.Booleans.{and_left, and_right}
use Rattle.decode.specs.declared.decoded.ResolvedOperand.{ResolvedOperand}
use Rattle.decode.specs.declared.decoded.Decoded.{Decoded}
use Rattle.decode.specs.declared.decoded.Decoded.TheVariants.{Operation, Move, Load, Store, Unknown}
use Rattle.tables.specs.Entry.{predicate_entry}
use Rattle.walk_operands.specs.Mask.{mask_by}
use Rattle.walk_pausable.specs.Call.{refused, ready}
use Rattle.walk_plans.specs.Operands.{operands_of, default_width, fitting, checked_operands}
use Rattle.walk_plans.specs.Plan.{operation_plan, move_plan, load_plan, store_plan}
use Rattle.walk_handler.specs.Prepare.{Plan, served, prepared}
use Rattle.claims_demands.specs.Faults.{faults}
use Rattle.claims_demands.specs.Premise.{IsMask}
use Rattle.claims_demands.specs.Run.{run_answers}

module _ (registers again : List ℕ) where
  abbrev SameAt : ResolvedOperand → Type 0
  SameAt n =
      let mask = (predicate_entry n.predicate).mask in
      (n.predicate ≡ 0 → ⊥) → get_or again mask 0 ≡ get_or registers mask 0

  masks : (n : ResolvedOperand) → SameAt n → mask_by again n.predicate ≡ mask_by registers n.predicate
  unfolding mask_by
  masks n same = by (eqb n.predicate 0) refl
    where
      by : (t : Bool) → eqb n.predicate 0 ≡ t → mask_by again n.predicate ≡ mask_by registers n.predicate
      by true e = rw e
      by false e = rw (e, same (eqb-false n.predicate 0 e))

  -- where no mask register has changed
  pub prepared_same :
      (vl : ℕ) (word : Decoded) → ((r : ℕ) → IsMask word r → get_or again r 0 ≡ get_or registers r 0) →
      prepared vl again word ≡ prepared vl registers word
  unfolding prepared operation_plan move_plan load_plan store_plan
  prepared_same vl (Operation w) same = rw (masks w.destination (λ n. same _ (inl (n, refl))))
  prepared_same vl (Move w) same =
      rw (masks w.destination (λ n. same _ (inl (n, refl))), masks w.source (λ n. same _ (inr (inl (n, refl)))))
  prepared_same vl (Load w) same =
      rw (masks w.destination (λ n. same _ (inl (n, refl))), masks w.address (λ n. same _ (inr (inl (n, refl)))))
  prepared_same vl (Store w) same =
      rw (masks w.«data» (λ n. same _ (inl (n, refl))), masks w.address (λ n. same _ (inr (inl (n, refl)))))
  prepared_same vl Unknown same = refl

-- an answer that refuses a word: it is one of a run's, no pause and no fault, and has no value
pub record Refusal (a : Answer) : Type 0 where
  pub listed : Among (number_of a) run_answers
  pub ends : number_of a ≡ 1 → ⊥
  pub faultless : faults a ≡ false
  pub value : value_of a ≡ 0

-- tested all at once, but for its place in the list
pub refusal :
    (a : Answer) → Among (number_of a) run_answers →
    not (eqb (number_of a) 1) && not (faults a) && eqb (value_of a) 0 ≡ true → Refusal a
refusal a listed h =
    let ended = not (eqb (number_of a) 1) in
    let tested = and_left (ended && not (faults a)) _ h in
    record {
      listed = listed;
      ends = eqb-false (number_of a) 1 (not-true _ (and_left ended _ tested));
      faultless = not-true _ (and_right ended _ tested);
      value = eqb-true (value_of a) 0 (and_right (ended && not (faults a)) _ h);
    }

served_refusal : (vl : ℕ) (word : Decoded) (made : Plan) (a : Answer) → served vl word made ≡ refused a → Refusal a
unfolding served accepts checked_operands
served_refusal vl word made a = by (all default_width (operands_of word)) (all (fitting vl) (operands_of word))
  where
    by :
        (x y : Bool) →
        let b = cond x (cond y (Done 0) PastRegisters) BadWidth in
        cond (eqb (number_of b) 0) (ready made) (refused b) ≡ refused a → Refusal a
    by true true e = let z : ◌≡◌ {A = ℕ} 0 1 = cc in absurd (omega arith)
    by true false e = let f : a ≡ PastRegisters = cc in rw f (refusal PastRegisters (inr (inr (inr (inl refl)))) refl)
    by false y e = let f : a ≡ BadWidth = cc in rw f (refusal BadWidth (inr (inr (inr (inr (inl refl))))) refl)

pub prepared_refusal :
    (vl : ℕ) (registers : List ℕ) (word : Decoded) (a : Answer) → prepared vl registers word ≡ refused a → Refusal a
unfolding prepared
prepared_refusal vl registers (Operation w) a = served_refusal vl (Operation w) _ a
prepared_refusal vl registers (Move w) a = served_refusal vl (Move w) _ a
prepared_refusal vl registers (Load w) a = served_refusal vl (Load w) _ a
prepared_refusal vl registers (Store w) a = served_refusal vl (Store w) _ a
prepared_refusal vl registers Unknown a =
    λ e. let f : a ≡ UnknownWord = cc in rw f (refusal UnknownWord (inr (inr (inl refl))) refl)
