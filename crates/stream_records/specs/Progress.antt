-- The records of a stream, byte by byte.
use Rattle.std.specs.Prelude.{ℕ, ◌+◌, Bool, true, false, cond, List, [], ◌∷◌, ◌++◌}
use Rattle.std.specs.Prelude.{Option, Some, None, Ok, Err}
use Rattle.stream_records.specs.declared.record.Record.{Record}
use Rattle.stream_records.specs.declared.record.NoRecord.TheVariants.{Cut, Unknown, End}
use Rattle.stream_records.specs.Record.{Next, next_record}

-- Whether run records are served, the bytes of a record that has not ended, its offset in the whole stream, and
-- whether it is of an unknown kind, so that no byte more is taken.
pub record Progress : Type 0 where
  pub runs : Bool
  pub pending : List ℕ
  pub offset : ℕ
  pub stopped : Bool

abbrev pub progress : Bool → List ℕ → ℕ → Bool → Progress
progress runs pending offset stopped = record { runs = runs; pending = pending; offset = offset; stopped = stopped }

-- the record that ended, if one did, and the progress after it
pub record Advance : Type 0 where
  pub whole : Option Record
  pub progress : Progress

abbrev pub advance : Option Record → Progress → Advance
advance whole progress = record { whole = whole; progress = progress }

-- by what the bytes from the record's first on are
abbrev pub taken_by : Progress → List ℕ → Next → Advance
taken_by p bytes (Ok (whole, next)) = advance (Some whole) (progress p.runs [] (p.offset + next) false)
taken_by p bytes (Err Cut) = advance None (progress p.runs bytes p.offset false)
taken_by p bytes (Err Unknown) = advance None (progress p.runs p.pending p.offset true)
taken_by p bytes (Err End) = advance None p

-- one byte more
unfoldable pub taken : Progress → ℕ → Advance
taken p byte =
    let bytes = p.pending ++ byte ∷ [] in
    cond p.stopped (advance None p) (taken_by p bytes (next_record p.runs bytes 0))

-- the first record that ends in some bytes, and the bytes after it
pub record Search : Type 0 where
  pub whole : Option Record
  pub progress : Progress
  pub rest : List ℕ

abbrev pub searched : Option Record → Progress → List ℕ → Search
searched whole progress rest = record { whole = whole; progress = progress; rest = rest }

-- the first search where there is a record, and else the second
abbrev pub first_of : Option Record → Search → Search → Search
first_of (Some whole) first second = first
first_of None first second = second

unfoldable pub found : Progress → List ℕ → Search
found p [] = searched None p []
found p (byte ∷ bytes) =
    let later = found (taken p byte).progress bytes in
    first_of (taken p byte).whole (searched (taken p byte).whole (taken p byte).progress bytes) later
