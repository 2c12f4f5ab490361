-- The text of all bytes, and after it the text of the end.
use Prim.Native.Nat.{ℕ, ◌+◌, ◌-◌, ◌^◌, ◌<◌, ◌≤◌}
use native.Mathlib.Omega.{arith}
use mathlib.Core.Path.{◌≡◌, refl, ap, ◌∙◌}
use mathlib.Core.Bool.{true}
use mathlib.Core.List.{List, [], ◌++◌, append_assoc, append-nil}
use borrow.Author.Tests.{le-leb, lt-leb, leb-false}
use borrow.Author.Rules.{part_to_end}
use borrow.Rule.Slice.PartMut.{put_mid, Post-is}
use lib.Dec.{leb}
use lib.ListN.{length, take, drop, replicate, length-append, length-drop, take-append-drop}
use lib.Seq.{length-take-le, drop-append-le, drop-length}
use Rattle.std.specs.Prelude.{Result, Ok, Err}
use Rattle.std.specs.Result.{IsErr}
use Rattle.machine.specs.Shape.{fresh_machine}
use Rattle.stream_records.specs.Reader.{fresh_reader}
use Rattle.stream_feed.specs.declared.feed.NoRoom.{NoRoom}
use Rattle.stream_feed.specs.declared.feed.Fed as declared
use Rattle.stream_feed.specs.Stream.{Fed, fed, finished, fresh_stream, output}
use Rattle.stream_feed.specs.Feed.{piece_room, acceptable, feed_result, fed_into, stream_of}
use Rattle.stream_feed.specs.Feed.{Written, no_room, last_room, finished_into, text_out, written_into}
use Rattle.stream_feed.proofs.Accepting.{by_room, accepted}
use Rattle.stream_feed.proofs.Texts.{Wrote, wrote_within, wrote_more, wrote_if, refused_if}
use Rattle.stream_feed.proofs.Texts.{fed_wrote, fed_refused, fed_stream}
use Rattle.stream_whole.specs.Whole.{whole_room, run_into}

-- without room for the end there is none for the whole
pub no_end : (bytes out : List ℕ) → length out < last_room → text_out no_room out ≡ run_into bytes out
unfolding run_into
no_end bytes out h = rw (lt-leb (whole_room (length bytes)) (length out) (omega arith))

only_no_room : (t : Written) → IsErr t → t ≡ no_room
only_no_room (Ok n) err = cc
only_no_room (Err e) err = refl

-- what was fed into the first part of `out`
pub record Given (bytes out : List ℕ) (r : Result declared.Fed NoRoom) (memory part : List ℕ) : Type 0 where
  pub counted : length bytes < 2 ^ 64
  pub sized : length out < 2 ^ 63
  pub enough : last_room ≤ length out
  pub kept : length part ≡ length (take (length out - last_room) out)
  pub same :
      feed_result fresh_reader fresh_machine r memory part
      ≡ fed_into fresh_reader fresh_machine bytes (replicate 4096 0) (take (length out - last_room) out)

module _ {bytes out memory part : List ℕ} {r : Result declared.Fed NoRoom} (g : Given bytes out r memory part) where
  abbrev room : ℕ
  room = length out - last_room

  -- the part of `out` that is lent to the feeding
  abbrev head : List ℕ
  head = take room out

  abbrev first : Fed
  first = fed fresh_stream bytes

  abbrev last_text : List ℕ
  last_text = finished first.stream

  -- `out` with its first part fed
  abbrev current : List ℕ
  current = part ++ drop room out

  room_length : length head ≡ room
  room_length = length-take-le room out (omega arith)

  pub refused : {e : NoRoom} {t : Written} → r ≡ Err e → IsErr t → text_out t current ≡ run_into bytes out
  unfolding run_into
  refused {e} {t} answered err =
      let same = rw answered at g.same in
      let none = fed_refused fresh_reader fresh_machine bytes (replicate 4096 0) head memory part same in
      let test = by_room fresh_reader (length bytes) (length head) (omega arith) (omega arith) ∙ none.0 in
      let short = leb-false (piece_room (length bytes)) (length head) test in
      let less = lt-leb (whole_room (length bytes)) (length out) (omega (arith, short, room_length)) in
      rw (only_no_room t err, none.1, take-append-drop, less)

  module _ (f : declared.Fed) (answered : r ≡ Ok f) where
    abbrev n : ℕ
    n = f.written

    fed_same :
        feed_result fresh_reader fresh_machine (Ok f) memory part
        ≡ fed_into fresh_reader fresh_machine bytes (replicate 4096 0) head
    fed_same = rw answered at g.same

    wrote : (acceptable fresh_reader (length bytes) (length head) ≡ true) × Wrote first.text head n part
    wrote = fed_wrote fresh_reader fresh_machine bytes (replicate 4096 0) head memory part f fed_same

    within : n ≤ room
    within = omega (arith, wrote_within wrote.1, g.kept, room_length)

    roomy : whole_room (length bytes) ≤ length out
    roomy = omega (arith, (accepted fresh_reader (length bytes) (length head) wrote.0).roomy, room_length)

    all : Wrote first.text out n current
    all = record {
      size = wrote.1.size;
      bytes =
          let h : length first.text ≤ length head = omega (arith, within, room_length, wrote.1.size) in
          let seam = drop-append-le (length first.text) head (drop room out) h in
          rw (wrote.1.bytes, append_assoc, ← seam, take-append-drop);
    }

    current_length : length current ≡ length out
    current_length =
        rw (length-append part (drop room out), g.kept, ← length-append head (drop room out), take-append-drop)

    pub inside : n ≤ length current
    inside = omega (arith, within, current_length)

    same_end : finished (stream_of f.reader f.machine memory) ≡ last_text
    same_end =
        ap finished (fed_stream fresh_reader fresh_machine bytes (replicate 4096 0) head memory part f fed_same)

    -- the bytes after the text, and as they are lent to the end
    abbrev rest : List ℕ
    rest = drop n current

    abbrev lent : List ℕ
    lent = take (length current - n) rest

    module _ (t : Written) (last : List ℕ) (ending : text_out t last ≡ finished_into f.reader f.machine lent) where
      ended : text_out t last ≡ written_into last_room last_text rest
      unfolding finished_into
      ended = rw (part_to_end current n, same_end) at ending

      -- there is room for the end
      pub never : {e : NoRoom} → t ≡ Err e → ⊥
      never e =
          let short = leb-false last_room (length rest) (refused_if _ last_text (rw e at ended)).0 in
          omega (arith, short, length-drop n current, current_length, within)

      wrote_end : (m : ℕ) → t ≡ Ok m → Wrote last_text rest m last
      wrote_end m e = (wrote_if (leb last_room (length rest)) (rw e at ended)).1

      pub both_within : (m : ℕ) → t ≡ Ok m → length last ≡ length lent → (n ≤ length out) × (m ≤ length out)
      both_within m e h =
          let end = ap (λ (l : List ℕ). length l) (part_to_end current n) in
          let size = wrote_within (wrote_end m e) in
          (omega (arith, within), omega (arith, h, end, length-drop n current, current_length))

      pub total :
          (m : ℕ) → t ≡ Ok m →
          text_out (Ok (n + m)) (put_mid n (length current - n) current last) ≡ run_into bytes out
      unfolding run_into output
      total m e =
          let w = wrote_more all (wrote_end m e) in
          let none : drop (length current - n) rest ≡ [] =
          Post-is n (length current) current inside ∙ drop-length current in
          rw (none, append-nil, w.size, w.bytes, le-leb (whole_room (length bytes)) (length out) roomy)
