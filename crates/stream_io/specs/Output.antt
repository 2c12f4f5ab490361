-- What the runner may write.
use Rattle.std.specs.Prelude.{ℕ, ◌+◌, ◌≡◌, Bool, cond, List, length, drop, replicate, Result, Ok}
use Rattle.std.specs.declared.ops.ControlFlow.{ControlFlow}
use Rattle.std.specs.declared.ops.ControlFlow.TheVariants.{Continue, Break}
use Rattle.machine.specs.Shape.{fresh_machine}
use Rattle.stream_records.specs.Reader.{fresh_reader}
use Rattle.stream_feed.specs.Stream.{Stream, fed, fresh_stream, output}
use Rattle.stream_feed.specs.Feed.{stream_of}
use Rattle.stream_io.specs.declared.Stopped.{Stopped}
use Rattle.stream_io.specs.declared.Session.{Session}

-- The text is what some bytes of a stream print from a place on: so far, or in all, when no more follow.
pub record Next (written : ℕ) (text : List ℕ) : Type 0 where
  pub bytes : List ℕ
  pub ended : Bool
  pub same : text ≡ drop written (cond ended (output bytes) (fed fresh_stream bytes).text)

-- the text is written after so many bytes, or no more can be
pub record Sends (written : ℕ) (text : List ℕ) (s : Result ℕ Stopped) : Type 0 where
  pub count : (n : ℕ) → s ≡ Ok n → n ≡ written + length text

-- a number that is answered at the end counts the output of some bytes, whole
pub record Whole (s : Result ℕ Stopped) : Type 0 where
  pub all : (n : ℕ) → s ≡ Ok n → (bytes : List ℕ) × (n ≡ length (output bytes))

-- Some bytes lead from the fresh stream to this one, and all that they print is written.
pub record Reached (s : Stream) (written : ℕ) : Type 0 where
  pub bytes : List ℕ
  pub stream : s ≡ (fed fresh_stream bytes).stream
  pub text : written ≡ length (fed fresh_stream bytes).text

abbrev pub fresh_session : Session
fresh_session = record { reader = fresh_reader; machine = fresh_machine; memory = replicate 4096 0; written = 0 }

abbrev pub session_stream : Session → Stream
session_stream s = stream_of s.reader s.machine s.memory

abbrev pub SessionReached : Session → Type 0
SessionReached s = Reached (session_stream s) s.written

-- a piece is fed, and what it prints counted
pub record FedBy (s : Session) (piece : List ℕ) (s' : Session) : Type 0 where
  pub stream : session_stream s' ≡ (fed (session_stream s) piece).stream
  pub count : s'.written ≡ s.written + length (fed (session_stream s) piece).text

-- a turn leads on, or ends with the whole output
pub record Turned (t : Result (ControlFlow ℕ (Unit {0})) Stopped) (s : Session) : Type 0 where
  pub onward : t ≡ Ok (Continue tt) → SessionReached s
  pub ended : (n : ℕ) → t ≡ Ok (Break n) → Whole (Ok n)
