-- A test that every operand of a list passes, and what some operand has where it fails.
use Prim.Native.Nat.{ℕ, ◌+◌, ◌-◌, ◌<◌, ◌≤◌}
use mathlib.Core.Logic.{inl, inr}
use mathlib.Core.Path.{◌≡◌, refl, sym}
use mathlib.Core.Bool.{Bool, true, false, cond, true≢false}
use mathlib.Core.List.{List, [], ◌∷◌}
use lib.Dec.{ltb}
use native.Mathlib.Omega.{arith}
use borrow.Author.Tests.{eqb-true, eqb-false, ltb-true, ltb-false}
use Rattle.decode.specs.declared.decoded.ResolvedOperand.{ResolvedOperand}
use Rattle.walk_operands.specs.declared.place.Place.{Place}
use Rattle.walk_operands.specs.Place.{place_of, register_at, fits}
use Rattle.bits.specs.Lists.{all}
use Rattle.walk_plans.specs.Operands.{default_width, fitting}
use Rattle.bits.specs.Lists.{Some}
use Rattle.claims_demands.specs.Refusals.{OtherWidth, PastVector}
use Rattle.claims_demands.proofs.Resolved.{All, Small}

-- Q is what an operand has that fails the test; A is known of every operand
module _ (test : ResolvedOperand → Bool) (Q A : ResolvedOperand → Type 0) where
  some_fails :
      ((n : ResolvedOperand) → A n → test n ≡ false → Q n) → (ns : List ResolvedOperand) → All A ns →
      all test ns ≡ false → Some Q ns
  unfolding all
  some_fails q [] a e = absurd (true≢false e)
  some_fails q (n ∷ ns) a e = by (test n) refl (some_fails q ns a.1)
    where
      by : (t : Bool) → test n ≡ t → (all test ns ≡ false → Some Q ns) → Some Q (n ∷ ns)
      by true f rest = inr (rest (rw f at e))
      by false f rest = inl (q n a.0 f)

  none_fails :
      ((n : ResolvedOperand) → test n ≡ true → Q n → ⊥) → (ns : List ResolvedOperand) → all test ns ≡ true →
      Some Q ns → ⊥
  unfolding all
  none_fails q [] e s = absurd s
  none_fails q (n ∷ ns) e s = by (test n) refl s (none_fails q ns)
    where
      by : (t : Bool) → test n ≡ t → Some Q (n ∷ ns) → (all test ns ≡ true → Some Q ns → ⊥) → ⊥
      by true f (inl h) rest = q n f h
      by true f (inr h) rest = rest (rw f at e) h
      by false f h rest = true≢false (sym (rw f at e))

pub other_width : (ns : List ResolvedOperand) → All Small ns → all default_width ns ≡ false → Some OtherWidth ns
unfolding default_width
other_width = some_fails default_width OtherWidth Small (λ n a e. eqb-false n.width 0 e)

pub no_other_width : (ns : List ResolvedOperand) → all default_width ns ≡ true → Some OtherWidth ns → ⊥
unfolding default_width
no_other_width = none_fails default_width OtherWidth Small (λ n e q. q (eqb-true n.width 0 e))

module _ (vl : ℕ) where
  -- a scalar's register always exists
  place_past :
      (p : Place) → p.register < 128 → fits vl p ≡ false → (p.vector ≡ true) × (128 ≤ p.register + (vl - 1))
  unfolding fits register_at
  place_past p small = by p.vector refl
    where
      by :
          (t : Bool) → p.vector ≡ t → ltb (cond t (p.register + (vl - 1)) p.register) 128 ≡ false →
          (p.vector ≡ true) × (128 ≤ p.register + (vl - 1))
      by true v e = (v, ltb-false (p.register + (vl - 1)) 128 e)
      by false v e = absurd (omega (arith, small, ltb-false p.register 128 e))

  place_fits : (p : Place) → fits vl p ≡ true → p.vector ≡ true → 128 ≤ p.register + (vl - 1) → ⊥
  unfolding fits register_at
  place_fits p e v h =
      let f : ltb (p.register + (vl - 1)) 128 ≡ true = rw v at e in
      omega (arith, ltb-true (p.register + (vl - 1)) 128 f)

  pub past_vector : (ns : List ResolvedOperand) → All Small ns → all (fitting vl) ns ≡ false → Some (PastVector vl) ns
  unfolding fitting
  past_vector = some_fails (fitting vl) (PastVector vl) Small (λ n a e. place_past (place_of n) a e)

  pub no_past_vector : (ns : List ResolvedOperand) → all (fitting vl) ns ≡ true → Some (PastVector vl) ns → ⊥
  unfolding fitting
  no_past_vector = none_fails (fitting vl) (PastVector vl) Small (λ n e q. place_fits (place_of n) e q.0 q.1)
