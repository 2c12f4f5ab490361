-- The claims about given streams, by computation.
use mathlib.Core.Path.{refl}
use Rattle.answers.specs.Answer.{accepts, pauses}
use Rattle.answers.specs.Verdict.{verdict}
use Rattle.registers.specs.Written.{written}
use Rattle.compute.specs.Compute.{computed}
use Rattle.scalar.specs.Signed.{sign_extended}
use Rattle.tables.specs.Enabled.{enabled_range}
use Rattle.tables.specs.Entry.{clear_below}
use Rattle.search.specs.Search.{entry_answers, candidate, highest, held_entry}
use Rattle.state_word.specs.State.{state_in_shape, of_word, good_word}
use Rattle.memory.specs.Access.{inside, located}
use Rattle.memory.specs.LittleEndian.{number}
use Rattle.memory.specs.Transfer.{loaded}
use Rattle.encoding.specs.Listing.{funct3_rows, funct6_rows, funct7_rows, first_form, look_up}
use Rattle.decode.specs.Resolving.{resolved}
use Rattle.decode.specs.Decoding.{decoded, decoded_as, compressed_move}
use Rattle.walk_operands.specs.Place.{register_at, fits}
use Rattle.walk_operands.specs.Mask.{on_bits, mask_by, is_on}
use Rattle.walk_pairs.specs.Side.{start, next, past}
use Rattle.walk_pairs.specs.Pair.{first_on, skipped, pair_from}
use Rattle.walk_pausable.specs.Walk.{walk}
use Rattle.walk_pausable.specs.Call.{begun}
use Rattle.walk_operations.specs.Operation.{element_of, registers_after, go_on, after_on, position_after, operation_unit}
use Rattle.walk_transfers.specs.Transfer.{pair_of, after_pair, after_transfer, at_pair, transfer_unit}
use Rattle.walk_transfers.specs.Moving.{move_element, move_unit}
use Rattle.walk_accesses.specs.Loading.{address_at, load_element, load_unit}
use Rattle.walk_plans.specs.Operands.{default_width, fitting, checked_operands}
use Rattle.bits.specs.Lists.{all}
use Rattle.walk_plans.specs.Plan.{operation_plan, move_plan, load_plan}
use Rattle.walk_handler.specs.Prepare.{served, prepared}
use Rattle.machine.specs.Shape.{in_shape, room_in_shape, tables_in_shape}
use Rattle.machine.specs.Setting.{set_state_word, set_register_entry, set_register}
use Rattle.machine.specs.Run.{prepare, unit, run}
use Rattle.memory.specs.Transfer.{store_answer, stored}
use Rattle.stream_records.specs.Record.{served_kind, body_at, next_record}
use Rattle.stream_records.specs.Progress.{taken}
use Rattle.stream_text.specs.Decimal.{digits, decimal}
use Rattle.stream_text.specs.Lines.{run_line, refused_line, bad_record_line, register_line, nonzero_line, lines_below}
use Rattle.stream_feed.specs.Apply.{applied, setting_text, report_text}
use Rattle.stream_feed.specs.Stream.{fed_record, fed, bad_text, output}
use Rattle.claims_streams.specs.Example.{example_bytes, example_text, Outputs}

pub outputs : Outputs
unfolding accepts pauses verdict written computed sign_extended enabled_range clear_below entry_answers candidate highest
    held_entry state_in_shape of_word good_word inside located number loaded funct3_rows funct6_rows funct7_rows first_form
    look_up resolved decoded decoded_as compressed_move register_at fits on_bits mask_by is_on start next past first_on skipped
    pair_from walk begun element_of registers_after go_on after_on position_after operation_unit pair_of after_pair after_transfer
    at_pair transfer_unit move_element move_unit address_at load_element load_unit all default_width fitting checked_operands
    operation_plan move_plan load_plan served prepared in_shape room_in_shape tables_in_shape set_state_word set_register_entry
    set_register prepare unit run store_answer stored served_kind body_at next_record taken
    digits decimal run_line refused_line bad_record_line register_line nonzero_line lines_below applied setting_text
    report_text fed_record fed bad_text output example_bytes example_text
outputs = record {
  example = refl;
  empty = refl;
  unknown_first = refl;
  unknown_later = refl;
  cut_first = refl;
  cut_later = refl;
  no_entry = refl;
  outside = refl;
  run_not_served = refl;
  cut_run_not_served = refl;
}
