-- One unit of a plan, and a run of a decoded word.
use Rattle.std.specs.Prelude.{ℕ}
use Rattle.answers.specs.declared.Answer.{Answer}
use Rattle.decode.specs.declared.decoded.Decoded.{Decoded}
use Rattle.walk_pausable.specs.Outcome.{Outcome}
use Rattle.walk_pausable.specs.Call.{begun}
use Rattle.walk_operations.specs.Context.{Context, pausing}
use Rattle.walk_operations.specs.Operation.{operation_unit}
use Rattle.walk_transfers.specs.Moving.{move_unit}
use Rattle.walk_accesses.specs.Loading.{load_unit}
use Rattle.walk_accesses.specs.Storing.{store_unit}
use Rattle.walk_handler.specs.Prepare.{Plan, operation, move, load, store, prepared}

abbrev pub unit_of : Plan → Context → Outcome Answer Context
unit_of (operation p) c = operation_unit p c
unit_of (move s) c = move_unit s c
unit_of (load p) c = load_unit p c
unit_of (store p) c = store_unit p c

-- a decoded word refused, or its plan walked up to the allowance
unfoldable pub handled : ℕ → Decoded → ℕ → Context → Outcome Answer Context
handled vl word allowance c = begun pausing unit_of (prepared vl c.registers word) allowance c
