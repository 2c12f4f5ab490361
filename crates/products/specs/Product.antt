-- The two halves of a product of 64-bit values, by the manual.
use Rattle.std.specs.Prelude.{◌≡◌, ℕ, ◌*◌, ◌%◌, ◌^◌, ◌<◌, pos, ◌+ℤ◌, ◌*ℤ◌}
use Rattle.std.specs.Int.Signed.{shr_z}
use Rattle.std.specs.Int.{w64}
use Rattle.std.proofs.Common.{of_z}
use Rattle.scalar.specs.Signed.{interpreted}
use Rattle.scalar.specs.declared.signedness.Signedness.{Signedness}
use Rattle.scalar.specs.declared.signedness.Signedness.TheVariants.{Signed, Unsigned}

-- the lower 64 bits, which are the same for all signs
unfoldable pub low_half : ℕ → ℕ → ℕ
low_half a b = a * b % 2 ^ 64

-- the upper 64 bits of the full product of 128 bits
unfoldable pub high_half : Signedness → Signedness → ℕ → ℕ → ℕ
high_half s t a b = of_z w64 (shr_z (interpreted s w64 a *ℤ interpreted t w64 b) (2 ^ 64))

-- a product is signed if a factor is
abbrev pub of_product : Signedness → Signedness → Signedness
of_product Signed t = Signed
of_product Unsigned t = t

-- High and low half together are the product, for all signs.
abbrev pub BothHalves : Type 0
BothHalves =
    (s t : Signedness) (a b : ℕ) → a < 2 ^ 64 → b < 2 ^ 64 →
    interpreted (of_product s t) w64 (high_half s t a b) *ℤ pos (2 ^ 64) +ℤ pos (low_half a b)
    ≡ interpreted s w64 a *ℤ interpreted t w64 b
