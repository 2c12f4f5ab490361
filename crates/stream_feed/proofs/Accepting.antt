-- When a piece is accepted, and a bad record printed.
use Prim.Native.Nat.{ℕ, zero, suc, ◌+◌, ◌*◌, ◌^◌, ◌<◌, ◌≤◌}
use native.Mathlib.Omega.{arith}
use mathlib.Core.Path.{◌≡◌, refl}
use mathlib.Core.Bool.{true, false, ◌&&◌, ◌||◌, and-eq-true_iff}
use mathlib.Core.List.{List, [], ◌∷◌}
use borrow.Author.Tests.{lt-ltb, le-leb, leb-true, ltb-true}
use lib.Dec.{leb, ltb}
use lib.ListN.{length, take}
use Rattle.stream_records.specs.declared.reader.Reader.{Reader}
use Rattle.stream_records.specs.Reader.{progress_of}
use Rattle.stream_text.specs.Lines.{bad_record_line}
use Rattle.stream_feed.specs.Stream.{bad_text}
use Rattle.stream_feed.specs.Feed.{acceptable}

pub record Accepted (r : Reader) (bytes room : ℕ) : Type 0 where
  pub short : r.length ≤ 10
  pub counted : r.offset + r.length + bytes < 2 ^ 64
  pub roomy : 14 * (bytes + 10) ≤ room

module _ (r : Reader) (bytes room : ℕ) where
  pub by_room :
      r.length ≤ 10 → r.offset + r.length + bytes < 2 ^ 64 → leb (14 * (bytes + 10)) room ≡ acceptable r bytes room
  unfolding acceptable
  by_room s h = rw (le-leb r.length 10 s, lt-ltb (r.offset + r.length + bytes) (2 ^ 64) h)

  pub accepted : acceptable r bytes room ≡ true → Accepted r bytes room
  unfolding acceptable
  accepted e =
      let a = leb r.length 10 in
      let b = ltb (r.offset + r.length + bytes) (2 ^ 64) in
      let both = (and-eq-true_iff (a && b) (leb (14 * (bytes + 10)) room)).0 e in
      let first = (and-eq-true_iff a b).0 both.0 in
      record {
        short = leb-true r.length 10 first.0;
        counted = ltb-true (r.offset + r.length + bytes) (2 ^ 64) first.1;
        roomy = leb-true (14 * (bytes + 10)) room both.1;
      }

-- bytes are pending where their number is not 0
some_pending : (n : ℕ) (l : List ℕ) → 0 < length l → ltb 0 (length (take n l)) ≡ ltb 0 n
some_pending zero l h = refl
some_pending (suc n) [] h = absurd (omega arith)
some_pending (suc n) (x ∷ l) h = rw (lt-ltb 0 (suc (length (take n l))) (omega arith), lt-ltb 0 (suc n) (omega arith))

module _ (r : Reader) (sized : length r.kept ≡ 11) where
  pub bad : r.stopped || ltb 0 r.length ≡ true → bad_record_line r.offset ≡ bad_text (progress_of r)
  unfolding bad_text
  bad e = rw (some_pending r.length r.kept (omega arith), e)

  pub not_bad : r.stopped || ltb 0 r.length ≡ false → [] ≡ bad_text (progress_of r)
  unfolding bad_text
  not_bad e = rw (some_pending r.length r.kept (omega arith), e)
