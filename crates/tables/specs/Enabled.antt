-- What a CFG enables, in both tables.
use Rattle.std.specs.Prelude.{ℕ, ◌+◌, ◌*◌, ◌^◌, min, Bool, cond, ◌&&◌, eqb, leb, ltb}
use Rattle.tables.specs.declared.enabled.Range.{Range}
use Rattle.bits.specs.Bits.{bits}

-- CFG: bits 2..0 bank, bits 4..3 size
abbrev pub bank : ℕ → ℕ
bank cfg = bits 2 0 cfg

abbrev pub size : ℕ → ℕ
size cfg = bits 4 3 cfg

-- entries 2b up to 2b + 2^(s+1) - 1, never past 15; 31 enables none
unfoldable pub enabled_range : ℕ → Range
enabled_range cfg = record {
  first = 2 * bank cfg;
  end = cond (eqb cfg 31) (2 * bank cfg) (min 16 (2 * bank cfg + 2 ^ (size cfg + 1)));
}

-- an index that lies in a range
abbrev pub in_range : Range → ℕ → Bool
in_range range i = leb range.first i && ltb i range.end
