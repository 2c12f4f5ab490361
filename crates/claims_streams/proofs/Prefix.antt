-- What the first bytes of a record are, by what it is.
use Prim.Native.Nat.{ℕ, zero, suc, ◌+◌, ◌<◌, ◌≤◌}
use native.Mathlib.Omega.{arith}
use mathlib.Core.Path.{◌≡◌, refl, ap, ◌∙◌}
use mathlib.Core.Bool.{Bool}
use mathlib.Core.List.{List, ◌∷◌, ◌++◌}
use lib.ListN.{length, length-append, get_or-append}
use Rattle.std.specs.Prelude.{Ok, Err}
use Rattle.memory.specs.LittleEndian.{number}
use Rattle.stream_records.specs.declared.record.Record.{Record}
use Rattle.stream_records.specs.declared.record.NoRecord.TheVariants.{Cut, Unknown, End}
use Rattle.stream_records.specs.Record.{layout_of, whole_at, next_record}
use Rattle.stream_records.proofs.Next.{is_unknown, is_cut, is_whole, by_tests}

-- a number of bytes that are all in the first list
number_prefix : (p q : List ℕ) (at n : ℕ) → at + n ≤ length p → number (p ++ q) at n ≡ number p at n
unfolding number
number_prefix p q at zero h = refl
number_prefix p q at (suc n) h =
    rw (get_or-append p q 0 at (omega arith), number_prefix p q (at + 1) n (omega arith))

-- the first bytes of a record, by what all are
module _ (runs : Bool) (x : ℕ) (p q : List ℕ) where
  abbrev short : List ℕ
  short = x ∷ p

  abbrev long : List ℕ
  long = x ∷ (p ++ q)

  some : 0 < length short
  some = omega arith

  pub cut_first : next_record runs long 0 ≡ Err Cut → next_record runs short 0 ≡ Err Cut
  cut_first =
      by_tests runs long 0 (λ n. n ≡ Err Cut → next_record runs short 0 ≡ Err Cut) (λ h e. cc) (λ h f e. cc)
      (λ h k f g e. is_cut runs short 0 some k f (omega (arith, length-append p q)))
      (λ h k f g e. cc)

  pub unknown_first : next_record runs long 0 ≡ Err Unknown → next_record runs short 0 ≡ Err Unknown
  unknown_first =
      by_tests runs long 0 (λ n. n ≡ Err Unknown → next_record runs short 0 ≡ Err Unknown) (λ h e. cc)
      (λ h f e. is_unknown runs short 0 some f) (λ h k f g e. cc) (λ h k f g e. cc)

  module _ (w : Record) (n : ℕ) where
    pub whole_short : next_record runs long 0 ≡ Ok (w, n) → length short < n → next_record runs short 0 ≡ Err Cut
    whole_short =
        by_tests runs long 0 (λ m. m ≡ Ok (w, n) → length short < n → next_record runs short 0 ≡ Err Cut)
        (λ h e s. cc) (λ h f e s. cc) (λ h k f g e s. cc)
        (λ h k f g e s.
        let whole : whole_at long 1 k ≡ (w, n) = cc in
        let same : 1 + (layout_of k).first + (layout_of k).second ≡ n = ap (λ (p : Record × ℕ). p.1) whole in
        is_cut runs short 0 some k f (omega arith))

    pub whole_full : next_record runs long 0 ≡ Ok (w, n) → length short ≡ n → next_record runs short 0 ≡ Ok (w, n)
    whole_full =
        by_tests runs long 0 (λ m. m ≡ Ok (w, n) → length short ≡ n → next_record runs short 0 ≡ Ok (w, n))
        (λ h e s. cc) (λ h f e s. cc) (λ h k f g e s. cc)
        (λ h k f g e s.
        let l = layout_of k in
        let whole : whole_at long 1 k ≡ (w, n) = cc in
        let same : 1 + l.first + l.second ≡ n = ap (λ (p : Record × ℕ). p.1) whole in
        is_whole runs short 0 some k f (omega arith)
        ∙ rw (
          ← number_prefix short q 1 l.first (omega arith),
          ← number_prefix short q (1 + l.first) l.second (omega arith),
        ) e)

-- a byte is never the end
pub not_end : (runs : Bool) (x : ℕ) (t : List ℕ) → next_record runs (x ∷ t) 0 ≡ Err End → ⊥
not_end runs x t =
    by_tests runs (x ∷ t) 0 (λ n. n ≡ Err End → ⊥) (λ h e. omega arith) (λ h f e. cc) (λ h k f g e. cc)
    (λ h k f g e. cc)
