-- The mask of an operand.
use Rattle.std.specs.Prelude.{ℕ, ◌-◌, ◌/◌, ◌%◌, ◌^◌, Bool, false, cond, List, eqb, get_or}
use Rattle.tables.specs.Entry.{predicate_entry}
use Rattle.walk_operands.specs.declared.mask.Mask.{Mask}

-- A position is on when that bit of the mask register differs from the invert bit: all bits of an inverted mask are
-- flipped.
unfoldable pub on_bits : Bool → ℕ → ℕ
on_bits invert value = cond invert (2 ^ 64 - 1 - value) value

-- The mask by a predicate entry; an operand without one, whose entry is 0, has all positions on.
unfoldable pub mask_by : List ℕ → ℕ → Mask
mask_by registers predicate =
    let entry = predicate_entry predicate in
    cond (eqb predicate 0)
    (record { on = 2 ^ 64 - 1; zeroing = false })
    (record { on = on_bits entry.invert (get_or registers entry.mask 0); zeroing = entry.zeroing })

-- bit i is 1
unfoldable pub is_on : Mask → ℕ → Bool
is_on mask i = eqb (mask.on / 2 ^ i % 2) 1
