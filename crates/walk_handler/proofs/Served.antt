-- The plan of a served word is the one made for it.
use Prim.Native.Nat.{ℕ}
use mathlib.Core.Path.{◌≡◌}
use mathlib.Core.Bool.{Bool, true, false, cond}
use native.Mathlib.Omega.{arith}
use Rattle.answers.specs.declared.Answer.{Answer}
use Rattle.answers.specs.Answer.{accepts}
use Rattle.decode.specs.declared.decoded.Decoded.{Decoded}
use Rattle.walk_pausable.specs.Call.{refused, ready}
use Rattle.walk_plans.specs.Operands.{checked}
use Rattle.walk_handler.specs.Prepare.{Plan, served}

pub served_plan : (vl : ℕ) (word : Decoded) (made plan : Plan) → served vl word made ≡ ready plan → plan ≡ made
unfolding served
served_plan vl word made plan = by (accepts (checked vl word)) (checked vl word)
  where
    by : (t : Bool) (a : Answer) → cond t (ready made) (refused a) ≡ ready plan → plan ≡ made
    by true a e = cc
    by false a e = let z : ◌≡◌ {A = ℕ} 0 1 = cc in absurd (omega arith)
