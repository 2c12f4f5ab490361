-- The next text, and the stream after it.
use Prim.Native.Nat.{ℕ, ◌+◌}
use native.Mathlib.Omega.{arith}
use mathlib.Core.Path.{◌≡◌, refl, sym, ap, ◌∙◌}
use mathlib.Core.Bool.{true, false}
use mathlib.Core.List.{List, [], ◌++◌}
use lib.Dec.{leb}
use lib.ListN.{length, take, drop, length-append}
use lib.Seq.{length-take-le, drop-append_seam}
use Rattle.std.specs.Prelude.{Result, Ok}
use Rattle.machine.specs.declared.Machine.{Machine}
use Rattle.stream_records.specs.declared.reader.Reader.{Reader}
use Rattle.stream_records.specs.Reader.{progress_of}
use Rattle.stream_feed.specs.Stream.{Stream, Fed, fed, last_text, finished, fresh_stream, output}
use Rattle.stream_feed.specs.Feed.{text_out, last_room, finished_into}
use Rattle.stream_feed.proofs.Fed.{fed_append}
use Rattle.stream_feed.proofs.Texts.{Wrote, wrote_within, wrote_text, wrote_if}
use Rattle.stream_io.specs.Output.{Next, Sends, Whole, Reached, SessionReached, fresh_session}
use Rattle.stream_io.specs.declared.Stopped.{Stopped}

pub begun : SessionReached fresh_session
unfolding fed
begun = record { bytes = []; stream = refl; text = refl }

-- what the end of a stream left in `out`
pub wrote_last :
    (r : Reader) (m : Machine) {out out' : List ℕ} {n : ℕ} → text_out (Ok n) out' ≡ finished_into r m out →
    Wrote (last_text (progress_of r) m.registers) out n out'
unfolding finished_into
wrote_last r m {out} same = (wrote_if (leb last_room (length out)) same).1

-- the part of `out` that holds a text is as long as that, and is written after so many bytes
module _ {text out out' : List ℕ} {n : ℕ} (w : Wrote text out n out') where
  pub part_length : n ≡ length (take n out')
  part_length = sym (length-take-le n out' (wrote_within w))

  pub part_next : {written : ℕ} → Next written text → Next written (take n out')
  part_next next = rw (wrote_text w) next

  pub part_sent : {written : ℕ} {s : Result ℕ Stopped} → Sends written (take n out') s → Sends written text s
  part_sent sends = rw (wrote_text w) at sends

module _ (s : Stream) (written : ℕ) (r : Reached s written) where
  abbrev sofar : Fed
  sofar = fed fresh_stream r.bytes

  rest : (later : List ℕ) → later ≡ drop written (sofar.text ++ later)
  rest later = rw r.text (sym (drop-append_seam sofar.text later))

  more : (piece : List ℕ) → (fed fresh_stream (r.bytes ++ piece)).text ≡ sofar.text ++ (fed s piece).text
  more piece = ap (λ (f : Fed). f.text) (fed_append fresh_stream r.bytes piece) ∙ rw (← r.stream)

  pub next_text : (piece : List ℕ) → Next written (fed s piece).text
  next_text piece =
      record { bytes = r.bytes ++ piece; ended = false; same = rw (more piece) (rest (fed s piece).text) }

  pub next_last : Next written (finished s)
  unfolding output
  next_last = record { bytes = r.bytes; ended = true; same = rw (← r.stream) (rest (finished s)) }

  -- the count after the last text, and after that of a piece
  pub whole : (n : ℕ) → n ≡ written + length (finished s) → Whole (Ok n)
  unfolding output
  whole n e = record {
    all = λ m same.
        let same' : n ≡ m = cc in (
          r.bytes,
          omega (
            arith,
            e,
            same',
            r.text,
            length-append sofar.text (finished sofar.stream),
            ap (λ (x : Stream). length (finished x)) r.stream,
          ),
        );
  }

  pub onward :
      (piece : List ℕ) (s' : Stream) (n : ℕ) → s' ≡ (fed s piece).stream → n ≡ written + length (fed s piece).text →
      Reached s' n
  onward piece s' n e size = record {
    bytes = r.bytes ++ piece;
    stream =
        e ∙ ap (λ (x : Stream). (fed x piece).stream) r.stream
        ∙ sym (ap (λ (f : Fed). f.stream) (fed_append fresh_stream r.bytes piece));
    text =
        omega (
          arith,
          r.text,
          size,
          ap (λ (l : List ℕ). length l) (more piece),
          length-append sofar.text (fed s piece).text,
        );
  }
