-- With as many units as the measure says, neither a walk nor a call pauses.
use Prim.Native.Nat.{ℕ, ◌≤◌}
use mathlib.Core.Path.{◌≡◌, refl}
use native.Mathlib.Omega.{arith}
use Rattle.walk_pausable.specs.Outcome.{Pausing, Outcome, Ended}
use Rattle.walk_pausable.specs.Call.{Prepared, refused, ready, begun, called, NoRefusalPauses}
use Rattle.walk_pausable.specs.Bound.{Bounded, Enough, BoundLaw}
use Rattle.walk_pausable.proofs.Walk.{walk_induction}

pub walk_bound :
    {A S : Type 0} {answers : Pausing A} {unit : S → Outcome A S} {Keep : S → Type 0} {measure : S → ℕ} →
    Bounded answers unit Keep measure → BoundLaw answers unit Keep measure
walk_bound {answers} {unit} {Keep} {measure} b =
    walk_induction answers unit (λ n s o. Keep s → Enough answers unit Keep measure n s → Ended answers o)
    (λ s k h. absurd (omega (arith, b.positive s k)))
    (λ n s e k h. e)
    (λ n s o e rest k h. rest (b.kept s k e) (omega (arith, b.falls s k e)))

-- what is kept and measured may depend on the plan
module _ {A S P : Type 0} {answers : Pausing A} {prepare : S → Prepared A P} {unit : P → S → Outcome A S}
    {Keep : P → S → Type 0} {measure : P → S → ℕ}
    (refusals : NoRefusalPauses answers prepare) (bounded : (p : P) → Bounded answers (unit p) (Keep p) (measure p))
  where
    pub call_bound :
        (n : ℕ) (s : S) → ((p : P) → prepare s ≡ ready p → Keep p s × (measure p s ≤ n)) →
        Ended answers (called answers prepare unit n s)
    unfolding begun
    call_bound n s enough = by (prepare s) refl
      where
        by : (r : Prepared A P) → prepare s ≡ r → Ended answers (begun answers unit r n s)
        by (refused a) e = refusals s a e
        by (ready p) e = walk_bound (bounded p) n s (enough p e).0 (enough p e).1
