-- The readings of zeroing, by computation.
use mathlib.Core.Path.{refl}
use Rattle.answers.specs.Answer.{accepts, pauses}
use Rattle.answers.specs.Verdict.{verdict}
use Rattle.registers.specs.Written.{written}
use Rattle.compute.specs.Compute.{computed}
use Rattle.tables.specs.Enabled.{enabled_range}
use Rattle.tables.specs.Entry.{clear_below}
use Rattle.search.specs.Search.{entry_answers, candidate, highest, held_entry}
use Rattle.state_word.specs.State.{state_in_shape, of_word, word_of, good_word}
use Rattle.memory.specs.Access.{inside, located}
use Rattle.memory.specs.LittleEndian as memory
use Rattle.memory.specs.Transfer.{loaded, store_answer, stored}
use Rattle.encoding.specs.Listing.{funct3_rows, funct6_rows, funct7_rows, first_form, look_up}
use Rattle.decode.specs.Resolving.{resolved}
use Rattle.decode.specs.Decoding.{decoded, decoded_as, compressed_move}
use Rattle.walk_operands.specs.Place.{register_at, fits}
use Rattle.walk_operands.specs.Mask.{on_bits, mask_by, is_on}
use Rattle.walk_pairs.specs.Side.{start, next, past}
use Rattle.walk_pairs.specs.Pair.{first_on, skips, skipped, off, met, pair_from}
use Rattle.walk_pausable.specs.Walk.{walk}
use Rattle.walk_pausable.specs.Call.{begun, listed}
use Rattle.walk_operations.specs.Operation.{element_of, registers_after, go_on, after_on, position_after, operation_unit}
use Rattle.walk_transfers.specs.Transfer.{started, pair_of, after_pair, after_transfer, at_pair, transfer_unit}
use Rattle.walk_transfers.specs.Moving.{move_element, zero_element, move_unit}
use Rattle.walk_accesses.specs.Alignment.{aligned, where_aligned}
use Rattle.walk_accesses.specs.Loading.{address_at, load_value, load_element, load_unit}
use Rattle.walk_accesses.specs.Storing.{store_value, store_element, store_zero, store_unit}
use Rattle.walk_plans.specs.Operands.{default_width, fitting, checked_operands}
use Rattle.bits.specs.Lists.{all}
use Rattle.walk_plans.specs.Plan.{operation_plan, move_plan, load_plan, store_plan}
use Rattle.walk_handler.specs.Prepare.{served, prepared}
use Rattle.machine.specs.Shape.{in_shape, room_in_shape, tables_in_shape}
use Rattle.machine.specs.Setting.{set_state_word, set_register_entry, set_register}
use Rattle.machine.specs.Run.{prepare, unit, run}
use Rattle.claims_readings.specs.Zeroing.{ZeroingReadings, masks, accesses, scalars}
use Rattle.claims_readings.specs.Machines.{put_from, base, holding, tagged, with_lengths, positioned}

pub zeroing : ZeroingReadings
unfolding accepts pauses verdict written computed enabled_range clear_below entry_answers candidate highest held_entry
    state_in_shape of_word word_of good_word inside located loaded funct3_rows funct6_rows funct7_rows first_form look_up resolved
    decoded decoded_as compressed_move register_at fits on_bits mask_by is_on start next past first_on skips skipped off met pair_from walk
    begun listed element_of registers_after go_on after_on position_after operation_unit started pair_of after_pair after_transfer at_pair
    transfer_unit move_element zero_element move_unit aligned where_aligned address_at load_value load_element load_unit all default_width
    fitting checked_operands operation_plan move_plan load_plan served prepared in_shape room_in_shape tables_in_shape
    set_state_word set_register_entry set_register prepare unit run put_from base holding tagged with_lengths positioned masks accesses scalars
    store_answer stored memory.written store_value store_element store_zero store_unit store_plan
zeroing =
    (refl, (refl, (refl, (refl, (refl, (refl, (refl, (refl, (refl, (refl, (refl, (refl, (refl, (refl, (refl, (refl, (refl, (refl, (refl, (refl, (refl, tt)))))))))))))))))))))
