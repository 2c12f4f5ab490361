-- The registers that an operand uses.
use Rattle.std.specs.Prelude.{ℕ, ◌+◌, ◌-◌, Bool, true, false, cond, ltb}
use Rattle.decode.specs.declared.decoded.Operand.{Operand}
use Rattle.decode.specs.declared.decoded.Operand.TheVariants.{Plain, Scalar, Vector}
use Rattle.decode.specs.declared.decoded.ResolvedOperand.{ResolvedOperand}
use Rattle.walk_operands.specs.declared.place.Place.{Place}

abbrev pub place_by : Operand → Place
place_by (Plain r) = record { register = r; vector = false }
place_by (Scalar r) = record { register = r; vector = false }
place_by (Vector r) = record { register = r; vector = true }

-- the real register of an operand, or for a plain one its own
abbrev pub place_of : ResolvedOperand → Place
place_of n = place_by n.operand

-- A vector operand uses real register + i.
unfoldable pub register_at : Place → ℕ → ℕ
register_at p i = cond p.vector (p.register + i) p.register

-- Answer 3 is for a vector operand's register + VL - 1 above 127. A scalar's register, of 7 bits, never is.
unfoldable pub fits : ℕ → Place → Bool
fits vl p = ltb (register_at p (vl - 1)) 128
