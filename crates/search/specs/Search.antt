-- The entry that holds for a key.
use Rattle.std.specs.Prelude.{ℕ, zero, suc, ◌≤◌, ◌≡◌, Bool, cond, ◌&&◌, List, eqb, get_or, Option, Some, None}
use Rattle.search.specs.declared.Table.{Table}
use Rattle.search.specs.declared.Table.TheVariants.{Register, Predicate}
use Rattle.tables.specs.declared.enabled.Range.{Range}
use Rattle.tables.specs.Enabled.{enabled_range, in_range}
use Rattle.tables.specs.Entry.{register_entry, predicate_entry}

-- An entry whose integer bit is 0 is ignored; the empty entry, zero, is one of those.
unfoldable pub entry_answers : Table → ℕ → ℕ → Bool
entry_answers Register key word = (register_entry word).integer && eqb (register_entry word).key key
entry_answers Predicate key word = (predicate_entry word).integer && eqb (predicate_entry word).key key

-- An entry outside the enabled range does not exist for the search.
unfoldable pub candidate : Table → List ℕ → Range → ℕ → ℕ → Bool
candidate table entries range key i = in_range range i && entry_answers table key (get_or entries i 0)

-- the highest index below n that passes a test
unfoldable pub highest : (ℕ → Bool) → ℕ → Option ℕ
highest test zero = None
highest test (suc n) = cond (test n) (Some n) (highest test n)

-- Of several enabled entries with one key the highest index holds.
unfoldable pub held_entry : Table → List ℕ → Range → ℕ → Option ℕ
held_entry table entries range key = highest (candidate table entries range key) 16

-- a range in which the search finds for every key, in both tables, what it finds in the one that a CFG enables
pub record FindsEnabled (cfg : ℕ) (register_table predicate_table : List ℕ) (range : Range) : Type 0 where
  pub low : range.end ≤ 16
  pub registers :
      (key : ℕ) →
      held_entry Register register_table range key ≡ held_entry Register register_table (enabled_range cfg) key
  pub predicates :
      (key : ℕ) →
      held_entry Predicate predicate_table range key ≡ held_entry Predicate predicate_table (enabled_range cfg) key
