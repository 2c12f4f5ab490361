-- The calls that take a piece of a stream and its end, and write text into bytes that are lent.
use Rattle.std.specs.Prelude.{Result, Ok, Err}
use Rattle.std.specs.Prelude.{ℕ, ◌+◌, ◌*◌, ◌^◌, ◌≤◌, ◌≡◌, Bool, cond, ◌&&◌, List, ◌++◌, leb, ltb, length, drop}
use Rattle.machine.specs.declared.Machine.{Machine}
use Rattle.machine.specs.Run.{system}
use Rattle.stream_records.specs.declared.reader.Reader.{Reader}
use Rattle.stream_records.specs.declared.record.Record.{Record}
use Rattle.stream_records.specs.Reader.{progress_of}
use Rattle.stream_text.specs.Put.{Put}
use Rattle.stream_feed.specs.declared.feed.NoRoom.{NoRoom}
use Rattle.stream_feed.specs.declared.feed.Fed as declared
use Rattle.stream_feed.specs.Apply.{applied, printed}
use Rattle.stream_feed.specs.Stream.{Stream, stream, fed, last_text}

-- Room for all that some bytes may print: every record has at least 4 bytes and prints at most 54, and 10 bytes of the
-- first may have come before.
abbrev pub piece_room : ℕ → ℕ
piece_room bytes = 14 * (bytes + 10)

-- A piece is accepted from a reader that holds an unfinished record and has counted less than 2 ^ 64 bytes with the
-- piece, and into enough room.
unfoldable pub acceptable : Reader → ℕ → ℕ → Bool
acceptable r bytes room =
    leb r.length 10 && ltb (r.offset + r.length + bytes) (2 ^ 64) && leb (piece_room bytes) room

-- a text put over the first bytes of others
abbrev pub over : List ℕ → List ℕ → List ℕ
over text out = text ++ drop (length text) out

-- how many bytes of text were written, or that there might be no room for them
abbrev pub Written : Type 0
Written = Result ℕ NoRoom

abbrev pub no_room : Written
no_room = Err (record {})

-- What a call answers and leaves: the stream, how many bytes of it are pending, and the bytes that were lent for the
-- text.
pub record Feed : Type 0 where
  pub text : Written
  pub stream : Stream
  pub pending : ℕ
  pub out : List ℕ

abbrev pub feed_with : Written → Stream → ℕ → List ℕ → Feed
feed_with text stream pending out = record { text = text; stream = stream; pending = pending; out = out }

abbrev pub stream_of : Reader → Machine → List ℕ → Stream
stream_of r m memory = stream (progress_of r) (system m memory)

-- A refusal gives no reader and no machine: those that were passed are what is left.
abbrev pub feed_result : Reader → Machine → Result declared.Fed NoRoom → List ℕ → List ℕ → Feed
feed_result r m (Ok f) memory out = feed_with (Ok f.written) (stream_of f.reader f.machine memory) f.reader.length out
feed_result r m (Err e) memory out = feed_with (Err e) (stream_of r m memory) r.length out

unfoldable pub fed_accepted : Reader → Machine → List ℕ → List ℕ → List ℕ → Feed
fed_accepted r m piece memory out =
    let f = fed (stream_of r m memory) piece in
    feed_with (Ok (length f.text)) f.stream (length f.stream.progress.pending) (over f.text out)

-- a refusal changes nothing
unfoldable pub fed_into : Reader → Machine → List ℕ → List ℕ → List ℕ → Feed
fed_into r m piece memory out =
    cond (acceptable r (length piece) (length out))
    (fed_accepted r m piece memory out)
    (feed_with no_room (stream_of r m memory) r.length out)

-- a record applied and printed
pub record Applying (m : Machine) (r : Record) (memory out : List ℕ) (at : ℕ) (m' : Machine) (memory' out' : List ℕ)
    (next : ℕ) : Type 0 where
  pub state : system m' memory' ≡ (applied r (system m memory)).state
  pub text : Put out at (printed r (applied r (system m memory))) out' next
  pub room : next ≤ at + 54

-- what a call answers, and leaves of the bytes that were lent for the text
pub record TextOut : Type 0 where
  pub text : Written
  pub out : List ℕ

abbrev pub text_out : Written → List ℕ → TextOut
text_out text out = record { text = text; out = out }

-- a text is written, or nothing is changed
abbrev pub written_if : Bool → List ℕ → List ℕ → TextOut
written_if fits text out = cond fits (text_out (Ok (length text)) (over text out)) (text_out no_room out)

-- into bytes that have to have so much room
abbrev pub written_into : ℕ → List ℕ → List ℕ → TextOut
written_into room text out = written_if (leb room (length out)) text out

-- room for the end: at most 35 bytes for a bad record and 26 for each register
abbrev pub last_room : ℕ
last_room = 3363

unfoldable pub finished_into : Reader → Machine → List ℕ → TextOut
finished_into r m out = written_into last_room (last_text (progress_of r) m.registers) out
