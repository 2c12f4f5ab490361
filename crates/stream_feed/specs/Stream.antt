-- A whole stream: bytes in, text out.
use Rattle.std.specs.Prelude.{Option, Some, None}
use Rattle.std.specs.Prelude.{ℕ, true, false, cond, ◌||◌, List, [], ◌∷◌, ◌++◌, ltb, length, replicate}
use Rattle.machine.specs.Shape.{fresh_machine}
use Rattle.machine.specs.Run.{System, system}
use Rattle.stream_records.specs.declared.record.Record.{Record}
use Rattle.stream_records.specs.Progress.{Progress, progress, Advance, taken}
use Rattle.stream_text.specs.Lines.{bad_record_line, lines_below}
use Rattle.stream_feed.specs.Apply.{applied, printed}

-- the progress in the bytes, and the machine and the memory
pub record Stream : Type 0 where
  pub progress : Progress
  pub system : System

abbrev pub stream : Progress → System → Stream
stream r s = record { progress = r; system = s }

-- what was printed, and what is left
pub record Fed : Type 0 where
  pub text : List ℕ
  pub stream : Stream

abbrev pub fed_with : List ℕ → Stream → Fed
fed_with text s = record { text = text; stream = s }

-- a record that ended is applied and printed
unfoldable pub fed_record : Option Record → Progress → System → Fed
fed_record (Some r) at s = let done = applied r s in fed_with (printed r done) (stream at done.state)
fed_record None at s = fed_with [] (stream at s)

abbrev pub fed_advance : Advance → System → Fed
fed_advance a s = fed_record a.whole a.progress s

-- text before what is printed later
abbrev pub after : List ℕ → Fed → Fed
after text later = fed_with (text ++ later.text) later.stream

-- Byte by byte: a record is applied when its last byte is there.
unfoldable pub fed : Stream → List ℕ → Fed
fed s [] = fed_with [] s
fed s (byte ∷ bytes) =
    let first = fed_advance (taken s.progress byte) s.system in
    after first.text (fed first.stream bytes)

-- An unknown kind or a cut record prints "bad record at" and its offset.
unfoldable pub bad_text : Progress → List ℕ
bad_text r = cond (r.stopped || ltb 0 (length r.pending)) (bad_record_line r.offset) []

-- Last each register that isn't 0, rising.
abbrev pub last_text : Progress → List ℕ → List ℕ
last_text r registers = bad_text r ++ lines_below registers 128

abbrev pub finished : Stream → List ℕ
finished s = last_text s.progress s.system.machine.registers

-- The runner starts fresh with 4,096 zero bytes of memory, and serves run records.
abbrev pub fresh_stream : Stream
fresh_stream = stream (progress true [] 0 false) (system fresh_machine (replicate 4096 0))

-- the text of a whole stream
unfoldable pub output : List ℕ → List ℕ
output bytes = let f = fed fresh_stream bytes in f.text ++ finished f.stream
