-- The table "What a call says": the number of each answer, and the value returned with it.
use Rattle.std.specs.Prelude.{ℕ, Bool, eqb}
use Rattle.answers.specs.declared.Answer.{Answer}
use Rattle.answers.specs.declared.Answer.TheVariants.{
  Done,
  Paused,
  UnknownWord,
  PastRegisters,
  BadWidth,
  Outside,
  OutOfShape,
  BadValue,
  NoSuchPlace,
  Misaligned,
}

abbrev pub number_of : Answer → ℕ
number_of (Done value) = 0
number_of Paused = 1
number_of UnknownWord = 2
number_of PastRegisters = 3
number_of BadWidth = 4
number_of (Outside address) = 5
number_of OutOfShape = 6
number_of BadValue = 7
number_of NoSuchPlace = 8
number_of (Misaligned address) = 9

-- the value of an accepted call, the address of a memory fault, and otherwise 0
abbrev pub value_of : Answer → ℕ
value_of (Done value) = value
value_of Paused = 0
value_of UnknownWord = 0
value_of PastRegisters = 0
value_of BadWidth = 0
value_of (Outside address) = address
value_of OutOfShape = 0
value_of BadValue = 0
value_of NoSuchPlace = 0
value_of (Misaligned address) = address

-- answer 0
unfoldable pub accepts : Answer → Bool
accepts answer = eqb (number_of answer) 0

-- answer 1
unfoldable pub pauses : Answer → Bool
pauses answer = eqb (number_of answer) 1
