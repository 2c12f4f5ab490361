-- A stream goes record by record: what is at the start of the bytes decides.
use Rattle.std.specs.Prelude.{ℕ, ◌+◌, ◌≡◌, Bool, true, false, List, [], drop, Ok, Err}
use Rattle.machine.specs.Run.{System}
use Rattle.stream_records.specs.declared.record.Record.{Record}
use Rattle.stream_records.specs.declared.record.NoRecord.TheVariants.{Cut, Unknown, End}
use Rattle.stream_records.specs.Record.{next_record}
use Rattle.stream_records.specs.Progress.{progress}
use Rattle.stream_feed.specs.Apply.{applied, printed}
use Rattle.stream_feed.specs.Stream.{Stream, stream, fed_with, after, fed}

-- no byte is pending, and the next one has this offset
abbrev pub between : Bool → ℕ → System → Stream
between runs offset s = stream (progress runs [] offset false) s

-- where run records are served or not
pub record ByRecord (runs : Bool) : Type 0 where
  pub none :
      (o : ℕ) (s : System) (bytes : List ℕ) → next_record runs bytes 0 ≡ Err End →
      fed (between runs o s) bytes ≡ fed_with [] (between runs o s)
  -- a whole record is applied and printed, and the bytes after it are next
  pub whole :
      (o : ℕ) (s : System) (bytes : List ℕ) (w : Record) (n : ℕ) → next_record runs bytes 0 ≡ Ok (w, n) →
      fed (between runs o s) bytes
      ≡ after (printed w (applied w s)) (fed (between runs (o + n) (applied w s).state) (drop n bytes))
  -- after an unknown kind no byte is taken
  pub unknown :
      (o : ℕ) (s : System) (bytes : List ℕ) → next_record runs bytes 0 ≡ Err Unknown →
      fed (between runs o s) bytes ≡ fed_with [] (stream (progress runs [] o true) s)
  -- the bytes of a cut record are pending
  pub cut :
      (o : ℕ) (s : System) (bytes : List ℕ) → next_record runs bytes 0 ≡ Err Cut →
      fed (between runs o s) bytes ≡ fed_with [] (stream (progress runs bytes o false) s)
