-- Without runs a run record is bad, whole or cut, and all others are what they were.
use Rattle.std.specs.Prelude.{ℕ, ◌≡◌, true, false, List, [], ◌∷◌, ◌++◌, get_or, Err}
use Rattle.machine.specs.Run.{System}
use Rattle.stream_records.specs.declared.record.NoRecord.TheVariants.{Unknown}
use Rattle.stream_records.specs.Record.{next_record}
use Rattle.stream_records.specs.Progress.{progress}
use Rattle.stream_records.specs.Reader.{progress_of, reader_without_runs}
use Rattle.stream_text.specs.Lines.{bad_record_line, lines_below}
use Rattle.stream_feed.specs.Stream.{fed}
use Rattle.claims_streams.specs.Pieces.{output_of}
use Rattle.claims_streams.specs.ByRecord.{between}

pub record WithoutRuns : Type 0 where
  -- the progress with which a reader without runs begins
  pub reader : progress_of reader_without_runs ≡ progress false [] 0 false
  -- kind 5 is found at its first byte, whatever follows it
  pub unknown : (rest : List ℕ) → next_record false (5 ∷ rest) 0 ≡ Err Unknown
  -- and nothing is printed after it but the registers
  pub bad :
      (o : ℕ) (s : System) (rest : List ℕ) →
      output_of (fed (between false o s) (5 ∷ rest)) ≡ bad_record_line o ++ lines_below s.machine.registers 128
  pub others :
      (bytes : List ℕ) (at : ℕ) → (get_or bytes at 0 ≡ 5 → ⊥) → next_record false bytes at ≡ next_record true bytes at
