-- A position is on when that bit of the mask register differs from the invert bit.
use Prim.Native.Nat.{ℕ, ◌+◌, ◌-◌, ◌/◌, ◌%◌, ◌^◌}
use mathlib.Core.Path.{◌≡◌, refl}
use mathlib.Core.Bool.{Bool, true, false, not}
use native.Mathlib.Omega.{arith}
use borrow.Author.Tests.{eq-eqb, ne_eqb, eqb-true, eqb-false}
use lib.Dec.{eqb}
use Rattle.walk_operands.specs.Mask.{on_bits, is_on}
use Rattle.walk_operands.proofs.Flipped.{flipped}
use Rattle.claims_demands.specs.Masks.{OnWhereTheyDiffer}

other_bit : (a b : ℕ) → a + b ≡ 1 → eqb a 1 ≡ not (eqb b 1)
other_bit a b e = by (eqb b 1) refl
  where
    by : (t : Bool) → eqb b 1 ≡ t → eqb a 1 ≡ not (eqb b 1)
    by true f = let one = eqb-true b 1 f in rw (f, ne_eqb a 1 (λ g. omega (arith, e, one, g)))
    by false f = let other = eqb-false b 1 f in let one : a ≡ 1 = omega (arith, e, other) in rw (f, eq-eqb a 1 one)

pub on_where_they_differ : OnWhereTheyDiffer
unfolding is_on on_bits
on_where_they_differ value i true zeroing l h =
    other_bit ((2 ^ 64 - 1 - value) / 2 ^ i % 2) (value / 2 ^ i % 2) (flipped 64 i value h l)
on_where_they_differ value i false zeroing l h = refl
