-- The entries of the two tables, as document 01's section "Table words" lays them out.
use Rattle.std.specs.Prelude.{ℕ, zero, suc, Bool, true, ◌&&◌, not, List, get_or}
use Rattle.tables.specs.declared.entry.RegisterEntry.{RegisterEntry}
use Rattle.tables.specs.declared.entry.PredicateEntry.{PredicateEntry}
use Rattle.bits.specs.Bits.{bits, bit}

-- bit 15 vector, bits 14..8 real register, bit 7 one for integer, bits 6..5 width, bits 4..0 key
abbrev pub register_entry : ℕ → RegisterEntry
register_entry word = record {
  vector = bit 15 word;
  register = bits 14 8 word;
  integer = bit 7 word;
  width = bits 6 5 word;
  key = bits 4 0 word;
}

-- bits 15..11 key, bit 10 zeroing, bit 9 invert, bit 8 one for integer, bits 7..1 real mask register
abbrev pub predicate_entry : ℕ → PredicateEntry
predicate_entry word = record {
  key = bits 15 11 word;
  zeroing = bit 10 word;
  invert = bit 9 word;
  integer = bit 8 word;
  mask = bits 7 1 word;
}

-- bit 0 of a predicate entry is zero
abbrev pub bit0_clear : ℕ → Bool
bit0_clear word = not (bit 0 word)

-- the same of the first n entries of a table
unfoldable pub clear_below : ℕ → List ℕ → Bool
clear_below zero entries = true
clear_below (suc n) entries = clear_below n entries && bit0_clear (get_or entries n 0)

-- and of all 16, enabled or not
abbrev pub all_bit0_clear : List ℕ → Bool
all_bit0_clear entries = clear_below 16 entries
