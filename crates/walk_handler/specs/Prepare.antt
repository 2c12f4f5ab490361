-- The refusals of a word, in the order 2, 4, 3, or its plan.
use Rattle.std.specs.Prelude.{ℕ, cond, List}
use Rattle.answers.specs.declared.Answer.{Answer}
use Rattle.answers.specs.declared.Answer.TheVariants.{UnknownWord}
use Rattle.answers.specs.Answer.{accepts}
use Rattle.decode.specs.declared.decoded.Decoded.{Decoded}
use Rattle.decode.specs.declared.decoded.Decoded.TheVariants.{Operation, Move, Load, Store, Unknown}
use Rattle.walk_pausable.specs.Call.{Prepared, refused, ready}
use Rattle.walk_operations.specs.declared.operation.OperationPlan.{OperationPlan}
use Rattle.walk_transfers.specs.declared.sides.Sides.{Sides}
use Rattle.walk_accesses.specs.declared.loading.LoadPlan.{LoadPlan}
use Rattle.walk_accesses.specs.declared.storing.StorePlan.{StorePlan}
use Rattle.walk_plans.specs.Operands.{checked}
use Rattle.walk_plans.specs.Plan.{operation_plan, move_plan, load_plan, store_plan}

pub data Plan : Type 0 where
  operation : OperationPlan → Plan
  move : Sides → Plan
  load : LoadPlan → Plan
  store : StorePlan → Plan

unfoldable pub served : ℕ → Decoded → Plan → Prepared Answer Plan
served vl word plan = cond (accepts (checked vl word)) (ready plan) (refused (checked vl word))

unfoldable pub prepared : ℕ → List ℕ → Decoded → Prepared Answer Plan
prepared vl registers (Operation w) = served vl (Operation w) (operation (operation_plan vl registers w))
prepared vl registers (Move w) = served vl (Move w) (move (move_plan vl registers w))
prepared vl registers (Load w) = served vl (Load w) (load (load_plan vl registers w))
prepared vl registers (Store w) = served vl (Store w) (store (store_plan vl registers w))
prepared vl registers Unknown = refused UnknownWord
