-- The two outcomes, by computation, and that they differ: register 42 is 0 in one and 4 in the other.
use Prim.Native.Nat.{ℕ}
use mathlib.Core.Logic.{inl}
use mathlib.Core.Path.{◌≡◌, refl, ap}
use native.Mathlib.Omega.{arith}
use lib.ListN.{get_or}
use Rattle.answers.specs.declared.Answer.{Answer}
use Rattle.answers.specs.Answer.{accepts, pauses}
use Rattle.registers.specs.Written.{written}
use Rattle.compute.specs.Compute.{computed}
use Rattle.tables.specs.Enabled.{enabled_range}
use Rattle.tables.specs.Entry.{clear_below}
use Rattle.search.specs.Search.{entry_answers, candidate, highest, held_entry}
use Rattle.state_word.specs.State.{state_in_shape}
use Rattle.encoding.specs.Listing.{funct3_rows, funct6_rows, funct7_rows, first_form, look_up}
use Rattle.decode.specs.Resolving.{resolved}
use Rattle.decode.specs.Decoding.{decoded, decoded_as}
use Rattle.walk_operands.specs.Place.{register_at, fits}
use Rattle.walk_operands.specs.Mask.{on_bits, mask_by, is_on}
use Rattle.walk_pausable.specs.Outcome.{Outcome}
use Rattle.walk_pausable.specs.Walk.{walk}
use Rattle.walk_pausable.specs.Call.{begun, listed}
use Rattle.walk_operations.specs.Operation.{element_of, registers_after, go_on, after_on, position_after, operation_unit}
use Rattle.walk_plans.specs.Operands.{default_width, fitting, checked_operands}
use Rattle.bits.specs.Lists.{all}
use Rattle.walk_plans.specs.Plan.{operation_plan}
use Rattle.walk_handler.specs.Prepare.{served, prepared}
use Rattle.machine.specs.Shape.{in_shape, room_in_shape, tables_in_shape}
use Rattle.machine.specs.Run.{System, prepare, unit, run}
use Rattle.claims_readings.specs.Machines.{put_from, base, holding, masked, positioned}
use Rattle.claims_readings.specs.WhyThePremise.{WhyThePremise, mask_written}

register42 : Outcome Answer System → ℕ
register42 o = get_or o.state.machine.registers 42 0

pub why_the_premise : WhyThePremise
unfolding register42 accepts pauses written computed enabled_range clear_below entry_answers candidate highest held_entry
    state_in_shape funct3_rows funct6_rows funct7_rows first_form look_up resolved decoded decoded_as register_at fits on_bits
    mask_by is_on walk begun listed element_of registers_after go_on after_on position_after operation_unit all default_width
    fitting checked_operands operation_plan served prepared in_shape room_in_shape tables_in_shape prepare unit run put_from
    base holding masked positioned mask_written
why_the_premise = record {
  uncut = λ memory. refl;
  first = λ memory. refl;
  cut = λ memory. refl;
  differ = λ memory e. let z : ◌≡◌ {A = ℕ} 0 4 = ap register42 e in omega arith;
  not_apart = λ apart.
      apart 41 (inl (λ e. omega (arith, e), refl))
      (inl (record { position = 1; below = omega arith; register = refl }));
}
