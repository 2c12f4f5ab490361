-- Demand 1, of the setting and reading calls.
use mathlib.Core.Path.{refl}
use Rattle.tables.specs.Entry.{clear_below}
use Rattle.state_word.specs.State.{state_in_shape}
use Rattle.machine.specs.Shape.{in_shape, room_in_shape, tables_in_shape}
use Rattle.claims_calls.specs.Calls.{CallsSound}
use Rattle.claims_calls.proofs.Settings.{setting_sound}
use Rattle.claims_calls.proofs.Readings.{reading_sound}

pub calls_sound : CallsSound
unfolding in_shape room_in_shape tables_in_shape state_in_shape clear_below
calls_sound = record { fresh = refl; setting = setting_sound; reading = reading_sound }
