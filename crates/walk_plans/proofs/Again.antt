-- Tests of three operands, of which the last may be one again.
use Prim.Native.Nat.{ℕ}
use mathlib.Core.Path.{◌≡◌, refl}
use mathlib.Core.Bool.{Bool, true, false, ◌&&◌}
use mathlib.Core.List.{[], ◌∷◌}
use Rattle.bits.specs.Lists.{all}
use Rattle.bits.proofs.Booleans.{and_true}
use Rattle.decode.specs.declared.decoded.ResolvedOperand.{ResolvedOperand}
use Rattle.walk_plans.specs.Operands.{default_width, fitting, checked_operands}

module _ (a b : ResolvedOperand) where
  again : (test : ResolvedOperand → Bool) → all test (a ∷ b ∷ b ∷ []) ≡ all test (a ∷ b ∷ [])
  unfolding all
  again test = by (test a) (test b)
    where
      by : (x y : Bool) → (x && (y && (y && true))) ≡ (x && (y && true))
      by true true = refl
      by true false = refl
      by false y = refl

  pub checked_again : (vl : ℕ) → checked_operands vl (a ∷ b ∷ b ∷ []) ≡ checked_operands vl (a ∷ b ∷ [])
  unfolding checked_operands
  checked_again vl = rw (again default_width, again (fitting vl))

pub all_three :
    (test : ResolvedOperand → Bool) (a b c : ResolvedOperand) →
    (test a && test b && test c) ≡ all test (a ∷ b ∷ c ∷ [])
unfolding all
all_three test a b c = by (test a) (test b) (test c)
  where
    by : (x y z : Bool) → (x && y && z) ≡ (x && (y && (z && true)))
    by true true z = and_true z
    by true false z = refl
    by false y z = refl
