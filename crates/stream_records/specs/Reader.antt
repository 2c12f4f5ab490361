-- The reader, and what its calls do.
use Rattle.std.specs.Prelude.{ℕ, ◌+◌, ◌-◌, ◌^◌, ◌<◌, ◌≤◌, ◌≡◌, Bool, true, false, List, length, take, drop, replicate}
use Rattle.std.specs.Prelude.{Option}
use Rattle.stream_records.specs.declared.reader.Reader.{Reader}
use Rattle.stream_records.specs.declared.reader.Found.{Found}
use Rattle.stream_records.specs.declared.record.Record.{Record}
use Rattle.stream_records.specs.Progress.{Progress, progress, advance, taken, searched, found}

abbrev pub new_reader : Bool → Reader
new_reader runs = record { kept = replicate 11 0; length = 0; offset = 0; stopped = false; runs = runs }

abbrev pub fresh_reader : Reader
fresh_reader = new_reader true

-- a run record is bad, whole or cut
abbrev pub reader_without_runs : Reader
reader_without_runs = new_reader false

abbrev pub progress_of : Reader → Progress
progress_of r = progress r.runs (take r.length r.kept) r.offset r.stopped

-- a reader that can take some bytes more
pub record Ready (r : Reader) (more : ℕ) : Type 0 where
  pub short : r.length ≤ 10
  pub room : r.offset + r.length + more < 2 ^ 64

pub record Taking (r : Reader) (byte : ℕ) (t : Option Record) (r' : Reader) : Type 0 where
  pub same : advance t (progress_of r') ≡ taken (progress_of r) byte
  pub sized : length r'.kept ≡ 11
  pub short : r'.length ≤ 10
  pub reached : r'.offset + r'.length ≤ r.offset + r.length + 1

pub record Finding (r : Reader) (piece : List ℕ) (from : ℕ) (f : Found) : Type 0 where
  pub same : searched f.whole (progress_of f.reader) (drop f.at piece) ≡ found (progress_of r) (drop from piece)
  pub sized : length f.reader.kept ≡ 11
  pub short : f.reader.length ≤ 10
  pub reached :
      f.reader.offset + f.reader.length + (length piece - f.at) ≤ r.offset + r.length + (length piece - from)
