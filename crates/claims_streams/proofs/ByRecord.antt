-- A stream goes record by record, by induction over the bytes of a record.
use Prim.Native.Nat.{ℕ, suc, ◌+◌, ◌<◌}
use native.Mathlib.Omega.{arith}
use mathlib.Core.Path.{◌≡◌, refl, ap, ◌∙◌}
use mathlib.Core.Bool.{Bool, true, false}
use mathlib.Core.List.{List, [], ◌∷◌, ◌++◌, append-nil}
use borrow.Author.Tests.{ltb-true, ltb-false}
use lib.Dec.{ltb}
use lib.ListN.{length, drop, length-append}
use lib.Seq.{append_snoc, drop_at}
use Rattle.std.specs.Prelude.{Ok, Err}
use Rattle.machine.specs.Run.{System}
use Rattle.stream_records.specs.declared.record.Record.{Record}
use Rattle.stream_records.specs.declared.record.NoRecord.TheVariants.{Cut, Unknown, End}
use Rattle.stream_records.specs.Record.{Next, next_record}
use Rattle.stream_records.specs.Progress.{progress, taken_by, taken}
use Rattle.stream_records.proofs.Next.{whole_within}
use Rattle.stream_feed.specs.Apply.{applied, printed}
use Rattle.stream_feed.specs.Stream.{stream, fed_with, fed_advance, fed_record, after, fed}
use Rattle.claims_streams.specs.ByRecord.{between, ByRecord}
use Rattle.claims_streams.proofs.Prefix.{cut_first, unknown_first, whole_short, whole_full, not_end}

module _ (runs : Bool) where
  -- one byte more of a record, by what the bytes with it are
  next_byte :
      (p : List ℕ) (c : ℕ) (q : List ℕ) (o : ℕ) (s : System) (n : Next) → next_record runs (p ++ c ∷ []) 0 ≡ n →
      fed (stream (progress runs p o false) s) (c ∷ q)
      ≡
      (let first = fed_advance (taken_by (progress runs p o false) (p ++ c ∷ []) n) s in
      after first.text (fed first.stream q))
  unfolding fed taken
  next_byte p c q o s n e = rw e

  stopped :
      (p : List ℕ) (o : ℕ) (s : System) (q : List ℕ) →
      fed (stream (progress runs p o true) s) q ≡ fed_with [] (stream (progress runs p o true) s)
  unfolding fed taken fed_record
  stopped p o s [] = refl
  stopped p o s (c ∷ q) = stopped p o s q

  cuts :
      (x : ℕ) (p q : List ℕ) (o : ℕ) (s : System) → next_record runs (x ∷ (p ++ q)) 0 ≡ Err Cut →
      fed (stream (progress runs (x ∷ p) o false) s) q ≡ fed_with [] (stream (progress runs (x ∷ (p ++ q)) o false) s)
  unfolding fed fed_record
  cuts x p [] o s e = rw (append-nil p)
  cuts x p (c ∷ q) o s e =
      let e' : next_record runs (x ∷ (p ++ c ∷ [] ++ q)) 0 ≡ Err Cut = rw (append_snoc p c q) e in
      next_byte (x ∷ p) c q o s (Err Cut) (cut_first runs x (p ++ c ∷ []) q e')
      ∙ cuts x (p ++ c ∷ []) q o s e'
      ∙ rw (append_snoc p c q)

  wholes :
      (x : ℕ) (p q : List ℕ) (o : ℕ) (s : System) (w : Record) (n : ℕ) → next_record runs (x ∷ (p ++ q)) 0 ≡ Ok (w, n) →
      suc (length p) < n →
      fed (stream (progress runs (x ∷ p) o false) s) q
      ≡ after (printed w (applied w s)) (fed (between runs (o + n) (applied w s).state) (drop n (x ∷ (p ++ q))))
  unfolding fed_record
  wholes x p [] o s w n e h = absurd (omega (arith, (whole_within runs (x ∷ (p ++ [])) 0 n e).end, length-append p []))
  wholes x p (c ∷ q) o s w n e h =
      by (ltb (length more) n) refl (wholes x (p ++ c ∷ []) q o s w n e')
    where
      more : List ℕ
      more = x ∷ (p ++ c ∷ [])

      e' : next_record runs (x ∷ (p ++ c ∷ [] ++ q)) 0 ≡ Ok (w, n)
      e' = rw (append_snoc p c q) e

      by :
          (t : Bool) → ltb (length more) n ≡ t →
          (length more < n →
          fed (stream (progress runs more o false) s) q
          ≡ after (printed w (applied w s))
          (fed (between runs (o + n) (applied w s).state) (drop n (x ∷ (p ++ c ∷ [] ++ q))))) →
          fed (stream (progress runs (x ∷ p) o false) s) (c ∷ q)
          ≡ after (printed w (applied w s))
          (fed (between runs (o + n) (applied w s).state) (drop n (x ∷ (p ++ c ∷ q))))
      by true t later =
          let h' = ltb-true (length more) n t in
          next_byte (x ∷ p) c q o s (Err Cut) (whole_short runs x (p ++ c ∷ []) q w n e' h')
          ∙ later h'
          ∙ ap (λ (r : List ℕ). after (printed w (applied w s))
          (fed (between runs (o + n) (applied w s).state) (drop n (x ∷ r)))) (append_snoc p c q)
      by false t later =
          let full : length more ≡ n = omega (arith, ltb-false (length more) n t, length-append p (c ∷ [])) in
          let rest : drop n (x ∷ (p ++ c ∷ q)) ≡ q = rw (← append_snoc p c q) (drop_at more q n full) in
          next_byte (x ∷ p) c q o s (Ok (w, n)) (whole_full runs x (p ++ c ∷ []) q w n e' full) ∙ rw rest

  by_none :
      (o : ℕ) (s : System) (bytes : List ℕ) → next_record runs bytes 0 ≡ Err End →
      fed (between runs o s) bytes ≡ fed_with [] (between runs o s)
  unfolding fed
  by_none o s [] e = refl
  by_none o s (x ∷ t) e = absurd (not_end runs x t e)

  -- a record of at least four bytes is cut after the first
  by_whole :
      (o : ℕ) (s : System) (bytes : List ℕ) (w : Record) (n : ℕ) → next_record runs bytes 0 ≡ Ok (w, n) →
      fed (between runs o s) bytes
      ≡ after (printed w (applied w s)) (fed (between runs (o + n) (applied w s).state) (drop n bytes))
  unfolding fed_record
  by_whole o s [] w n e = absurd (omega (arith, (whole_within runs [] 0 n e).end, (whole_within runs [] 0 n e).least))
  by_whole o s (x ∷ t) w n e =
      let long : 1 < n = omega (arith, (whole_within runs (x ∷ t) 0 n e).least) in
      next_byte [] x t o s (Err Cut) (whole_short runs x [] t w n e long) ∙ wholes x [] t o s w n e long

  by_unknown :
      (o : ℕ) (s : System) (bytes : List ℕ) → next_record runs bytes 0 ≡ Err Unknown →
      fed (between runs o s) bytes ≡ fed_with [] (stream (progress runs [] o true) s)
  unfolding fed_record next_record
  by_unknown o s [] e = cc
  by_unknown o s (x ∷ t) e = next_byte [] x t o s (Err Unknown) (unknown_first runs x [] t e) ∙ stopped [] o s t

  by_cut :
      (o : ℕ) (s : System) (bytes : List ℕ) → next_record runs bytes 0 ≡ Err Cut →
      fed (between runs o s) bytes ≡ fed_with [] (stream (progress runs bytes o false) s)
  unfolding fed_record next_record
  by_cut o s [] e = cc
  by_cut o s (x ∷ t) e = next_byte [] x t o s (Err Cut) (cut_first runs x [] t e) ∙ cuts x [] t o s e

  pub by_record : ByRecord runs
  by_record = record { none = by_none; whole = by_whole; unknown = by_unknown; cut = by_cut }
