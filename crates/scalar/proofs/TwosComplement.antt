-- Laws of the word of a number.
use mathlib.Core.Path.{◌≡◌}
use Prim.Native.Nat.{ℕ, ◌%◌, ◌^◌}
use native.Mathlib.Omega.{arith}
use lib.IntN.{ℤ}
use mir.Syntax.{w32, w64}
use mir.Val.{of_z, SFits}
use mir.Facts.{to_z-of_z, Fits-of_z}
use Rattle.scalar.specs.Signed.{sign_extended}
use Rattle.scalar.specs.declared.width.Width.TheVariants.{Word}

-- the word of a number in its range is extended to the number's 64 bits
pub word_extended : {z : ℤ} → SFits w32 z → sign_extended Word (of_z w32 z) ≡ of_z w64 z
unfolding sign_extended
word_extended {z} h = let f = Fits-of_z h in let e : of_z w32 z % 2 ^ 32 ≡ of_z w32 z = omega arith in rw (e, to_z-of_z h)

-- a value cut to 64 bits has the same word
pub word_of_wrapped : (n : ℕ) → sign_extended Word (n % 2 ^ 64) ≡ sign_extended Word n
unfolding sign_extended
word_of_wrapped n = let e : n % 2 ^ 64 % 2 ^ 32 ≡ n % 2 ^ 32 = omega arith in rw e
