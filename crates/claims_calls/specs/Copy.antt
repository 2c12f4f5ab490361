-- Copying a machine out by the reading calls and back by the setting calls, in any order.
use Rattle.std.specs.Prelude.{ℕ, zero, suc, ◌<◌, ◌≡◌, cond, true, List, [], ◌∷◌, ◌++◌}
use Rattle.answers.specs.Answer.{accepts, value_of}
use Rattle.machine.specs.declared.Machine.{Machine}
use Rattle.machine.specs.declared.Reply.{Reply}
use Rattle.machine.specs.Calls.{refuse, done}
use Rattle.machine.specs.Shape.{in_shape, Sized}
use Rattle.bits.specs.Lists.{Among}
use Rattle.claims_calls.specs.Reading as out
use Rattle.claims_calls.specs.Reading.{Reading, read}
use Rattle.claims_calls.specs.Setting as back
use Rattle.claims_calls.specs.Setting.{Setting, set}

-- one call after another: the first that does not answer 0 is the last
abbrev pub after : Reply → (Machine → Reply) → Reply
after reply next = cond (accepts reply.answer) (next reply.machine) reply

-- what one reading call and one setting call copy
pub data Part : Type 0 where
  register_entry : ℕ → Part
  predicate_entry : ℕ → Part
  register : ℕ → Part
  pc : Part
  state_word : Part

abbrev pub reading_of : Part → Reading
reading_of (register_entry i) = out.register_entry i
reading_of (predicate_entry i) = out.predicate_entry i
reading_of (register i) = out.register i
reading_of pc = out.pc
reading_of state_word = out.state_word

abbrev pub setting_of : Part → ℕ → Setting
setting_of (register_entry i) value = back.register_entry i value
setting_of (predicate_entry i) value = back.predicate_entry i value
setting_of (register i) value = back.register i value
setting_of pc value = back.pc value
setting_of state_word value = back.state_word value

-- what the reading call says of the saved machine, set in the host
abbrev pub carried : Machine → Part → Machine → Reply
carried saved p host =
    let said = (read saved (reading_of p)).answer in
    after (refuse host said) (λ m. set m (setting_of p (value_of said)))

unfoldable pub restored : List Part → Machine → Machine → Reply
restored [] saved host = done host 0
restored (p ∷ ps) saved host = after (carried saved p host) (restored ps saved)

-- every register, both tables whole, the program counter and the state word
abbrev pub IsPart : Part → Type 0
IsPart (register_entry i) = i < 16
IsPart (predicate_entry i) = i < 16
IsPart (register i) = i < 128
IsPart pc = Unit
IsPart state_word = Unit

-- A list that names every part, and nothing else; the order is free, and so are repeats.
pub record Whole (ps : List Part) : Type 0 where
  pub contains : (p : Part) → IsPart p → Among p ps
  pub only : (p : Part) → Among p ps → IsPart p

-- For any two machines in shape the copy gives the first, every call answering 0.
abbrev pub CopyKept : Type 0
CopyKept =
    (ps : List Part) → Whole ps → (saved host : Machine) → Sized saved → Sized host →
    in_shape saved ≡ true → in_shape host ≡ true → restored ps saved host ≡ done saved 0

-- what each index below n gives, rising
unfoldable pub each_below : ℕ → (ℕ → List Part) → List Part
each_below zero parts = []
each_below (suc n) parts = each_below n parts ++ parts n

-- One such list, in the order of examples/slices.c: the registers, the entries of both tables side by side, the program
-- counter and the state word.
abbrev pub every_register : List Part
every_register = each_below 128 (λ i. register i ∷ [])

abbrev pub every_entry : List Part
every_entry = each_below 16 (λ i. register_entry i ∷ predicate_entry i ∷ [])

abbrev pub registers_first : List Part
registers_first = every_register ++ every_entry ++ (pc ∷ state_word ∷ [])

abbrev pub RegistersFirstIsWhole : Type 0
RegistersFirstIsWhole = Whole registers_first
