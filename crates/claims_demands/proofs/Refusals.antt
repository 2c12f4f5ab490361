-- Each refusal of a run has exactly its condition.
use Prim.Native.Nat.{ℕ}
use mathlib.Core.Path.{◌≡◌, refl, sym, ◌∙◌}
use mathlib.Core.Bool.{Bool, true, false, cond, true≢false}
use mathlib.Core.List.{List}
use lib.Dec.{eqb}
use native.Mathlib.Omega.{arith}
use Rattle.answers.specs.declared.Answer.{Answer}
use Rattle.answers.specs.declared.Answer.TheVariants.{Done, UnknownWord, PastRegisters, BadWidth, OutOfShape}
use Rattle.answers.specs.Answer.{number_of, accepts}
use Rattle.decode.specs.declared.decoded.Decoded.{Decoded}
use Rattle.decode.specs.declared.decoded.Decoded.TheVariants.{Operation, Move, Load, Store, Unknown}
use Rattle.walk_pausable.specs.Walk.{walk}
use Rattle.walk_pausable.specs.Call.{Prepared, refused, ready, begun}
use Rattle.bits.specs.Lists.{all}
use Rattle.walk_plans.specs.Operands.{operands_of, default_width, fitting, checked_operands}
use Rattle.walk_handler.specs.Prepare.{Plan, served, prepared}
use Rattle.walk_operations.specs.Context.{pausing}
use Rattle.machine.specs.declared.Machine.{Machine}
use Rattle.machine.specs.Shape.{in_shape}
use Rattle.machine.specs.Run.{System, word_on, prepare, unit, run}
use Rattle.claims_demands.specs.Run.{refuses}
use Rattle.claims_demands.specs.Refusals.{SomeOtherWidth, SomePastVector, RefusedBy, RefusedExactly}
use Rattle.claims_demands.proofs.Exactly.{both, neither}
use Rattle.claims_demands.proofs.Systems.{plan_of}
use Rattle.claims_demands.proofs.Resolved.{word_small}
use Rattle.claims_demands.proofs.Tested.{other_width, no_other_width, past_vector, no_past_vector}
use Rattle.claims_demands.proofs.Runs.{walked}

-- what is prepared, by the tests of a word in their order
module _ (Q : Prepared Answer Plan → Type 0) (vl : ℕ) (registers : List ℕ) where
  record Cases (d : Decoded) : Type 0 where
    unknown : d ≡ Unknown → Q (refused UnknownWord)
    width : (d ≡ Unknown → ⊥) → all default_width (operands_of d) ≡ false → Q (refused BadWidth)
    past :
        (d ≡ Unknown → ⊥) → all default_width (operands_of d) ≡ true → all (fitting vl) (operands_of d) ≡ false →
        Q (refused PastRegisters)
    serves :
        (plan : Plan) → (d ≡ Unknown → ⊥) → all default_width (operands_of d) ≡ true →
        all (fitting vl) (operands_of d) ≡ true → Q (ready plan)

  by_served : (d : Decoded) (plan : Plan) → (d ≡ Unknown → ⊥) → Cases d → Q (served vl d plan)
  unfolding served accepts checked_operands
  by_served d plan known c = by (all default_width (operands_of d)) (all (fitting vl) (operands_of d)) refl refl
    where
      by :
          (a b : Bool) → all default_width (operands_of d) ≡ a → all (fitting vl) (operands_of d) ≡ b →
          let answer = cond a (cond b (Done 0) PastRegisters) BadWidth in
          Q (cond (eqb (number_of answer) 0) (ready plan) (refused answer))
      by true true e f = c.serves plan known e f
      by true false e f = c.past known e f
      by false b e f = c.width known e

  by_word : (d : Decoded) → Cases d → Q (prepared vl registers d)
  unfolding prepared
  by_word (Operation w) = by_served (Operation w) _ (λ e. let z : ◌≡◌ {A = ℕ} 0 1 = cc in omega arith)
  by_word (Move w) = by_served (Move w) _ (λ e. let z : ◌≡◌ {A = ℕ} 0 1 = cc in omega arith)
  by_word (Load w) = by_served (Load w) _ (λ e. let z : ◌≡◌ {A = ℕ} 0 1 = cc in omega arith)
  by_word (Store w) = by_served (Store w) _ (λ e. let z : ◌≡◌ {A = ℕ} 0 1 = cc in omega arith)
  by_word Unknown = λ c. c.unknown refl

-- the number that is answered, by the first test that fails
module _ (m : Machine) (d : Decoded) where
  shape_fails : in_shape m ≡ false → RefusedBy m d 6
  shape_fails h =
      let not_so : in_shape m ≡ true → ⊥ = λ t. true≢false (sym t ∙ h) in
      record {
        shape = both refl h;
        unknown = neither (λ e. omega (arith, e)) (λ c. not_so c.0);
        width = neither (λ e. omega (arith, e)) (λ c. not_so c.0);
        past = neither (λ e. omega (arith, e)) (λ c. not_so c.0);
      }

  module _ (h : in_shape m ≡ true) where
    word_fails : d ≡ Unknown → RefusedBy m d 2
    word_fails u = record {
      shape = neither (λ e. omega (arith, e)) (λ f. true≢false (sym h ∙ f));
      unknown = both refl (h, u);
      width = neither (λ e. omega (arith, e)) (λ c. c.1 u);
      past = neither (λ e. omega (arith, e)) (λ c. c.1 u);
    }

    module _ (known : d ≡ Unknown → ⊥) where
      width_fails : SomeOtherWidth d → RefusedBy m d 4
      width_fails w = record {
        shape = neither (λ e. omega (arith, e)) (λ f. true≢false (sym h ∙ f));
        unknown = neither (λ e. omega (arith, e)) (λ c. known c.1);
        width = both refl (h, known, w);
        past = neither (λ e. omega (arith, e)) (λ c. c.2 w);
      }

      past_fails :
          (SomeOtherWidth d → ⊥) → SomePastVector m d → RefusedBy m d 3
      past_fails n p = record {
        shape = neither (λ e. omega (arith, e)) (λ f. true≢false (sym h ∙ f));
        unknown = neither (λ e. omega (arith, e)) (λ c. known c.1);
        width = neither (λ e. omega (arith, e)) (λ c. n c.2);
        past = both refl (h, known, n, p);
      }

      none_fails :
          (a : Answer) → (refuses a ≡ true → ⊥) → (SomeOtherWidth d → ⊥) →
          (SomePastVector m d → ⊥) → RefusedBy m d (number_of a)
      none_fails a serves n p = record {
        shape = neither (λ e. serves (rw e)) (λ f. true≢false (sym h ∙ f));
        unknown = neither (λ e. serves (rw e)) (λ c. known c.1);
        width = neither (λ e. serves (rw e)) (λ c. n c.2);
        past = neither (λ e. serves (rw e)) (λ c. p c.3);
      }

module _ (word n : ℕ) (s : System) where
  abbrev Claim : Prepared Answer Plan → Type 0
  Claim p =
      prepare word s ≡ p →
      RefusedBy s.machine (word_on word s.machine) (number_of (begun pausing unit p n s).answer)

  cases : let m = s.machine in in_shape m ≡ true → Cases Claim m.state.vl m.registers (word_on word m)
  unfolding begun
  cases h =
      let m = s.machine in
      let d = word_on word m in
      let small = word_small word m.state.cfg m.register_table m.predicate_table in
      record {
        unknown = λ u e. word_fails m d h u;
        width = λ k a e. width_fails m d h k (other_width (operands_of d) small a);
        past = λ k a b e.
            past_fails m d h k (no_other_width (operands_of d) a) (past_vector m.state.vl (operands_of d) small b);
        serves = λ plan k a b e.
            let answer = (walk pausing (unit plan) n s).answer in
            none_fails m d h k answer (walked word plan n s (plan_of word s plan e)).serves
            (no_other_width (operands_of d) a) (no_past_vector m.state.vl (operands_of d) b);
      }

  by_shape :
      let m = s.machine in
      (t : Bool) → in_shape m ≡ t →
      Claim (cond t (prepared m.state.vl m.registers (word_on word m)) (refused OutOfShape))
  unfolding begun
  by_shape true h = by_word Claim s.machine.state.vl s.machine.registers (word_on word s.machine) (cases h)
  by_shape false h = λ e. shape_fails s.machine (word_on word s.machine) h

pub refused_exactly : RefusedExactly
unfolding run prepare
refused_exactly word n s = by_shape word n s (in_shape s.machine) refl refl
