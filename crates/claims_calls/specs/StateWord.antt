-- Demand 2's claims about the state word.
use Rattle.std.specs.Prelude.{ℕ, ◌/◌, ◌^◌, min, ◌≡◌, true}
use Rattle.bits.specs.Bits.{bits}
use Rattle.machine.specs.declared.Machine.{Machine}
use Rattle.machine.specs.declared.Reply.{Reply}
use Rattle.answers.specs.Answer.{value_of}
use Rattle.machine.specs.Calls.{done}
use Rattle.machine.specs.Shape.{in_shape}
use Rattle.machine.specs.Setting.{set_state_word}
use Rattle.machine.specs.Reading.{read_state_word}
use Rattle.claims_calls.specs.Setting.{Accepted}

-- A word that is read back has all 32 bits of the word that was set, but for VL, which is cut to MVL, and no bit above
-- them.
pub record ReadBack (word : ℕ) (reply : Reply) : Type 0 where
  pub answered : Accepted reply
  pub mvl : bits 5 0 (value_of reply.answer) ≡ bits 5 0 word
  pub vl : bits 11 6 (value_of reply.answer) ≡ min (bits 11 6 word) (bits 5 0 word)
  pub rest : bits 31 12 (value_of reply.answer) ≡ bits 31 12 word
  pub above : value_of reply.answer / 2 ^ 32 ≡ 0

pub record StateWordKept : Type 0 where
  -- a state word read out and written back changes nothing
  pub written_back :
      (m : Machine) → in_shape m ≡ true → set_state_word m (value_of (read_state_word m).answer) ≡ done m 0
  -- an accepted one reads back equal, but for VL cut to MVL
  pub read_back :
      (m : Machine) (word : ℕ) → Accepted (set_state_word m word) →
      ReadBack word (read_state_word (set_state_word m word).machine)
