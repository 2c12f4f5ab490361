use mathlib.Core.Path.{refl, ap}
use Rattle.walk_handler.specs.Prepare.{operation, move, load, store, prepared}
use Rattle.walk_handler.proofs.Handled.{walked, operation_ready, move_ready, load_ready, store_ready}
use Rattle.walk_handler.proofs.walk_word.Goals as goal

pub walk-requires : goal.walk-requires
walk-requires c = operation_ready c.requires _ c.in-Operation.is c.operation_plan-plan.ensures

pub move_walk-requires-clause-sides_ready : goal.move_walk-requires-clause-sides_ready
move_walk-requires-clause-sides_ready c = (move_ready c.requires _ c.in-Move.is c.move_plan-plan.ensures).0

pub move_walk-requires-clause-registers : goal.move_walk-requires-clause-registers
move_walk-requires-clause-registers c = (move_ready c.requires _ c.in-Move.is c.move_plan-plan.ensures).1

pub walk-requires-in-Load-clause-sides_ready : goal.walk-requires-in-Load-clause-sides_ready
walk-requires-in-Load-clause-sides_ready c = (load_ready c.requires _ c.in-Load.is c.load_plan-plan.ensures).0

pub walk-requires-in-Load-clause-registers : goal.walk-requires-in-Load-clause-registers
walk-requires-in-Load-clause-registers c = (load_ready c.requires _ c.in-Load.is c.load_plan-plan.ensures).1

pub walk-requires-in-Store-clause-sides_ready : goal.walk-requires-in-Store-clause-sides_ready
walk-requires-in-Store-clause-sides_ready c = (store_ready c.requires _ c.in-Store.is c.store_plan-plan.ensures).0

pub walk-requires-in-Store-clause-registers : goal.walk-requires-in-Store-clause-registers
walk-requires-in-Store-clause-registers c = (store_ready c.requires _ c.in-Store.is c.store_plan-plan.ensures).1

pub returns-in-Operation : goal.returns-in-Operation
unfolding prepared
returns-in-Operation c =
    walked _ _ _ c.in-Operation.is (ap operation c.operation_plan-plan.ensures) refl c.requires.2 (c.walk.ensures c.args.memory.now)

pub returns-in-Move : goal.returns-in-Move
unfolding prepared
returns-in-Move c =
    walked _ _ _ c.in-Move.is (ap move c.move_plan-plan.ensures) refl c.requires.2 (c.move_walk.ensures c.args.memory.now)

pub returns-in-Load : goal.returns-in-Load
unfolding prepared
returns-in-Load c =
    walked _ _ _ c.in-Load.is (ap load c.load_plan-plan.ensures) refl c.requires.2 c.walk-in-Load.ensures

pub returns-in-Store : goal.returns-in-Store
unfolding prepared
returns-in-Store c =
    walked _ _ _ c.in-Store.is (ap store c.store_plan-plan.ensures) refl c.requires.2 c.walk-in-Store.ensures
