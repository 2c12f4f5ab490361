-- Demand 1, of the setting and reading calls.
use Rattle.std.specs.Prelude.{ℕ, ◌≡◌, true, List, [], ◌∷◌}
use Rattle.answers.specs.Answer.{number_of, value_of}
use Rattle.machine.specs.declared.Machine.{Machine}
use Rattle.machine.specs.declared.Reply.{Reply}
use Rattle.machine.specs.Shape.{in_shape, fresh_machine}
use Rattle.bits.specs.Lists.{Among}
use Rattle.claims_calls.specs.Setting.{Setting, set, returned, Accepted}
use Rattle.claims_calls.specs.Reading.{Reading, read}

-- what settings and readings answer
abbrev pub setting_answers : List ℕ
setting_answers = 0 ∷ 6 ∷ 7 ∷ 8 ∷ []

abbrev pub reading_answers : List ℕ
reading_answers = 0 ∷ 6 ∷ 8 ∷ []

-- a refusal leaves the machine as it was, and returns 0
pub record Refused (m : Machine) (reply : Reply) : Type 0 where
  pub machine : reply.machine ≡ m
  pub value : value_of reply.answer ≡ 0

-- what a setting call on m replies
pub record SettingSound (m : Machine) (s : Setting) (reply : Reply) : Type 0 where
  pub answer : Among (number_of reply.answer) setting_answers
  -- an accepted setting leaves a machine in shape
  pub accepted : Accepted reply → in_shape reply.machine ≡ true
  pub value : Accepted reply → value_of reply.answer ≡ returned s reply.machine
  pub refused : (Accepted reply → ⊥) → Refused m reply

-- what a reading call on m replies
pub record ReadingSound (m : Machine) (reply : Reply) : Type 0 where
  pub answer : Among (number_of reply.answer) reading_answers
  pub machine : reply.machine ≡ m
  pub refused : (Accepted reply → ⊥) → value_of reply.answer ≡ 0

pub record CallsSound : Type 0 where
  -- a fresh machine is in shape
  pub fresh : in_shape fresh_machine ≡ true
  pub setting : (m : Machine) (s : Setting) → SettingSound m s (set m s)
  pub reading : (m : Machine) (r : Reading) → ReadingSound m (read m r)
