-- The refusals of a setting or reading call, in the order 6, 8, then its own.
use Rattle.std.specs.Prelude.{Bool, true, false}
use Rattle.answers.specs.declared.Answer.{Answer}
use Rattle.answers.specs.declared.Answer.TheVariants.{Done, OutOfShape, BadValue, NoSuchPlace}

-- a call's own answer, by whether its value can be taken: 7 where it can't
abbrev pub valid : Bool → Answer
valid true = Done 0
valid false = BadValue

-- whether the machine is in shape, whether the entry or register exists, and the call's own answer
unfoldable pub verdict : Bool → Bool → Answer → Answer
verdict false exists own = OutOfShape
verdict true false own = NoSuchPlace
verdict true true own = own
