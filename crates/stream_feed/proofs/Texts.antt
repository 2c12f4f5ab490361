-- What a call has left that writes a text, or has no room for it.
use Prim.Native.Nat.{ℕ, ◌+◌, ◌≤◌}
use native.Mathlib.Omega.{arith}
use mathlib.Core.Path.{◌≡◌, refl, ap}
use mathlib.Core.Bool.{Bool, true, false, cond}
use mathlib.Core.List.{List, ◌++◌, append_assoc}
use lib.ListN.{length, take, drop, length-append}
use lib.Seq.{take-append_seam, drop-append_seam, drop-drop}
use Rattle.machine.specs.declared.Machine.{Machine}
use Rattle.stream_records.specs.declared.reader.Reader.{Reader}
use Rattle.std.specs.Prelude.{Result, Ok, Err}
use Rattle.stream_feed.specs.declared.feed.NoRoom.{NoRoom}
use Rattle.stream_feed.specs.declared.feed.Fed as declared
use Rattle.stream_feed.specs.Stream.{Fed, fed}
use Rattle.stream_feed.specs.Feed.{acceptable, Feed, feed_with, feed_result, stream_of, fed_accepted, fed_into}
use Rattle.stream_feed.specs.Feed.{no_room, over, TextOut, text_out, written_if}

-- a text of so many bytes was put over the first bytes
pub record Wrote (text out : List ℕ) (n : ℕ) (out' : List ℕ) : Type 0 where
  pub size : n ≡ length text
  pub bytes : out' ≡ over text out

pub wrote_within : {text out out' : List ℕ} {n : ℕ} → Wrote text out n out' → n ≤ length out'
wrote_within {text} {out} w = rw (w.bytes, w.size) (omega (arith, length-append text (drop (length text) out)))

pub wrote_text : {text out out' : List ℕ} {n : ℕ} → Wrote text out n out' → take n out' ≡ text
wrote_text {text} {out} w = rw (w.bytes, w.size) (take-append_seam text (drop (length text) out))

-- a second text after the first
pub wrote_more :
    {a b out xs last : List ℕ} {n m : ℕ} → Wrote a out n xs → Wrote b (drop n xs) m last →
    Wrote (a ++ b) out (n + m) (take n xs ++ last)
wrote_more {a} {b} {out} {xs} {last} {n} {m} w v = record {
  size = omega (arith, w.size, v.size, length-append a b);
  bytes =
      let rest : drop n xs ≡ drop (length a) out = rw (w.bytes, w.size) (drop-append_seam a (drop (length a) out)) in
      rw (wrote_text w, v.bytes, rest, drop-drop (length b) (length a) out, length-append a b, append_assoc);
}

text_in : {a b : TextOut} → a ≡ b → a.text ≡ b.text
text_in e = ap (λ (x : TextOut). x.text) e

out_in : {a b : TextOut} → a ≡ b → a.out ≡ b.out
out_in e = ap (λ (x : TextOut). x.out) e

pub wrote_if :
    (fits : Bool) {text out out' : List ℕ} {n : ℕ} → text_out (Ok n) out' ≡ written_if fits text out →
    (fits ≡ true) × Wrote text out n out'
wrote_if true s = let t = text_in s in (refl, record { size = cc; bytes = out_in s })
wrote_if false s = let t = text_in s in absurd cc

pub refused_if :
    (fits : Bool) {out out' : List ℕ} {e : NoRoom} (text : List ℕ) → text_out (Err e) out' ≡ written_if fits text out →
    (fits ≡ false) × (out' ≡ out)
refused_if true text s = let t = text_in s in absurd cc
refused_if false text s = (refl, out_in s)

-- a piece that was fed
module _ (reader : Reader) (machine : Machine) (piece memory out memory' out' : List ℕ) where
  abbrev fits : Bool
  fits = acceptable reader (length piece) (length out)

  abbrev after : Fed
  after = fed (stream_of reader machine memory) piece

  abbrev given : Result declared.Fed NoRoom → Type 0
  given r = feed_result reader machine r memory' out' ≡ fed_into reader machine piece memory out

  text_given :
      (f : Feed) → f ≡ fed_into reader machine piece memory out →
      text_out f.text f.out ≡ written_if fits after.text out
  unfolding fed_into fed_accepted
  text_given f same = rw same (by fits)
    where
      by :
          (b : Bool) →
          (let refused = feed_with no_room (stream_of reader machine memory) reader.length out in
          let f = cond b (fed_accepted reader machine piece memory out) refused in
          text_out f.text f.out ≡ written_if b after.text out)
      by true = refl
      by false = refl

  module _ (f : declared.Fed) (same : given (Ok f)) where
    pub fed_wrote : (fits ≡ true) × Wrote after.text out f.written out'
    fed_wrote = wrote_if fits (text_given _ same)

    pub fed_stream : stream_of f.reader f.machine memory' ≡ after.stream
    unfolding fed_into fed_accepted
    fed_stream = ap (λ (f : Feed). f.stream) (rw fed_wrote.0 at same)

  pub fed_refused : {e : NoRoom} → given (Err e) → (fits ≡ false) × (out' ≡ out)
  fed_refused same = refused_if fits after.text (text_given _ same)
