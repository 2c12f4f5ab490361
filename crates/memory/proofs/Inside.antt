-- Laws of the test of an access.
use mathlib.Core.Bool.{Bool, true, false, cond}
use mathlib.Core.Path.{◌≡◌, refl}
use Prim.Native.Nat.{ℕ, ◌+◌, ◌<◌, ◌≤◌}
use native.Mathlib.Omega.{arith}
use borrow.Author.Tests.{leb-true, le-leb, lt-leb}
use lib.Dec.{leb}
use Rattle.scalar.specs.declared.width.Width.{Width}
use Rattle.scalar.specs.declared.width.Width.TheVariants.{Byte, Half, Word, Double}
use Rattle.scalar.specs.Width.{bytes_of}
use Rattle.std.specs.Prelude.{Result, Ok, Err}
use Rattle.memory.specs.declared.access.Outside.{Outside}
use Rattle.memory.specs.Access.{inside, located}

-- an access has a byte
pub some_bytes : (width : Width) → 1 ≤ bytes_of width
some_bytes Byte = omega arith
some_bytes Half = omega arith
some_bytes Word = omega arith
some_bytes Double = omega arith

module _ (size address n : ℕ) where
  pub is_inside : address + n ≤ size → Ok address ≡ located size address n
  unfolding inside located
  is_inside h = rw (le-leb (address + n) size h)

  pub is_outside : size < address + n → ◌≡◌ {A = Result ℕ Outside} (Err record {}) (located size address n)
  unfolding inside located
  is_outside h = rw (lt-leb (address + n) size h)

-- an access that is served begins at its address, and all its bytes are there
pub record Served (size address n at : ℕ) : Type 0 where
  pub start : at ≡ address
  pub room : address + n ≤ size

pub served : (size address n : ℕ) {at : ℕ} → located size address n ≡ Ok at → Served size address n at
unfolding inside located
served size address n {at} e = go (leb (address + n) size) refl e
  where
    go :
        (t : Bool) → leb (address + n) size ≡ t → ◌≡◌ {A = Result ℕ Outside} (cond t (Ok address) (Err record {})) (Ok at) →
        Served size address n at
    go true p q = record { start = cc; room = leb-true (address + n) size p }
    go false p q = let z : ◌≡◌ {A = ℕ} 0 1 = cc in record { start = omega arith; room = omega arith }
