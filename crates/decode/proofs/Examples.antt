use mathlib.Core.Path.{refl}
use Rattle.tables.specs.Enabled.{enabled_range}
use Rattle.search.specs.Search.{entry_answers, candidate, highest, held_entry}
use Rattle.encoding.specs.Listing.{funct3_rows, funct6_rows, funct7_rows, first_form, look_up}
use Rattle.decode.specs.Resolving.{resolved}
use Rattle.decode.specs.Decoding.{decoded, decoded_as, compressed_move}
use Rattle.decode.specs.Examples.{Examples}

pub examples : Examples
unfolding enabled_range entry_answers candidate highest held_entry funct3_rows funct6_rows funct7_rows first_form look_up
    resolved decoded decoded_as compressed_move
examples =
    record {
      add = refl;
      mul = refl;
      not_add = refl;
      remuw = refl;
      not_mulhw = refl;
      not_mulhsuw = refl;
      not_mulhuw = refl;
      addi = refl;
      srai = refl;
      not_srai = refl;
      not_sraiw = refl;
      ld = refl;
      lwu = refl;
      not_load = refl;
      sd = refl;
      not_store = refl;
      move = refl;
      not_move = refl;
      move_to0 = refl;
      tagged = refl;
    }
