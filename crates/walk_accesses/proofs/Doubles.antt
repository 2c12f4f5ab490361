-- A double has no bits to extend.
use Rattle.std.proofs.Common.{◌≡◌, ℕ, ◌%◌, ◌^◌, Bool, true, false, List, length, refl, mod-eq_of_lt, w64}
use mir.Facts.{of_z-to_z}
use Rattle.scalar.specs.declared.width.Width.TheVariants.{Double}
use Rattle.scalar.specs.Signed.{sign_extended}
use Rattle.std.specs.Prelude.{Result, Ok, Err}
use Rattle.memory.specs.declared.access.Outside.{Outside}
use Rattle.memory.specs.Access.{located}
use Rattle.memory.specs.LittleEndian.{Bytes, number}
use Rattle.memory.specs.Transfer.{loaded, loaded_from}
use Rattle.memory.proofs.Bytes.{number_below}
use Rattle.walk_accesses.specs.Loading.{widened, load_value}

module _ (memory : List ℕ) (address : ℕ) (bytes : Bytes memory) where
  pub extended_double : sign_extended Double (number memory address 8) ≡ number memory address 8
  unfolding sign_extended
  extended_double =
      let h = number_below memory address 8 bytes in
      let e : number memory address 8 % 2 ^ 64 ≡ number memory address 8 = mod-eq_of_lt h in
      rw e (of_z-to_z {w = w64} (record { fits = h }))

-- signed and unsigned loads of a double bring the same
pub same_double :
    (memory : List ℕ) (address : ℕ) → Bytes memory → (signed : Bool) →
    load_value memory address Double signed ≡ load_value memory address Double false
same_double memory address bytes false = refl
same_double memory address bytes true = unfold load_value loaded in by (located (length memory) address 8)
  where
    by : (a : Result ℕ Outside) → widened true Double (loaded_from memory 8 a) ≡ widened false Double (loaded_from memory 8 a)
    by (Ok at) = rw (extended_double memory at bytes)
    by (Err outside) = refl
