-- The record at a place of some bytes, and where it ends.
use Prim.Native.Nat.{ℕ, ◌+◌, ◌<◌, ◌≤◌}
use mathlib.Core.Path.{◌≡◌, refl, ap}
use mathlib.Core.Bool.{Bool, true, false, cond}
use mathlib.Core.List.{List}
use native.Mathlib.Omega.{arith}
use borrow.Author.Tests.{lt-leb, lt-ltb, le-ltb, leb-true, leb-false, ltb-true, ltb-false}
use lib.Dec.{leb, ltb}
use lib.ListN.{length, get_or}
use Rattle.std.specs.Prelude.{Result, Ok, Err}
use Rattle.stream_records.specs.Record.{unknown, layout_of, served_kind, whole_at, body_at, Next, next_record}
use Rattle.stream_records.specs.declared.kind.Kind.{Kind}
use Rattle.stream_records.specs.declared.kind.UnknownKind.{UnknownKind}
use Rattle.stream_records.specs.declared.record.Record.{Record}
use Rattle.stream_records.specs.declared.record.NoRecord.TheVariants.{Cut, Unknown, End}
use Rattle.stream_records.proofs.Layouts.{small}

module _ (runs : Bool) (bytes : List ℕ) (at : ℕ) where
  abbrev asked : Result Kind UnknownKind
  asked = served_kind runs (get_or bytes at 0)

  -- where a record of a kind ends
  abbrev end : Kind → ℕ
  end k = at + 1 + (layout_of k).first + (layout_of k).second

  module _ (more : at < length bytes) where
    pub is_unknown : asked ≡ Err unknown → next_record runs bytes at ≡ Err Unknown
    unfolding next_record body_at
    is_unknown e = rw (lt-leb (length bytes) at more, e)

    module _ (k : Kind) (known : asked ≡ Ok k) where
      pub is_cut : length bytes < end k → next_record runs bytes at ≡ Err Cut
      unfolding next_record body_at
      is_cut h = rw (lt-leb (length bytes) at more, known, lt-ltb (length bytes) (end k) h)

      pub is_whole : end k ≤ length bytes → next_record runs bytes at ≡ Ok (whole_at bytes (at + 1) k)
      unfolding next_record body_at
      is_whole h = rw (lt-leb (length bytes) at more, known, le-ltb (length bytes) (end k) h)

  -- what is there, by the tests
  module _ (P : Next → Type 0) where
    pub by_tests :
        (length bytes ≤ at → P (Err End)) →
        (at < length bytes → asked ≡ Err unknown → P (Err Unknown)) →
        (at < length bytes → (k : Kind) → asked ≡ Ok k → length bytes < end k → P (Err Cut)) →
        (at < length bytes → (k : Kind) → asked ≡ Ok k → end k ≤ length bytes → P (Ok (whole_at bytes (at + 1) k))) →
        P (next_record runs bytes at)
    unfolding next_record body_at
    by_tests none bad cut whole = go (leb (length bytes) at) refl asked refl
      where
        sized :
            (k : Kind) (t : Bool) → ltb (length bytes) (end k) ≡ t → at < length bytes → asked ≡ Ok k →
            P (cond t (Err Cut) (Ok (whole_at bytes (at + 1) k)))
        sized k true e h known = cut h k known (ltb-true (length bytes) (end k) e)
        sized k false e h known = whole h k known (ltb-false (length bytes) (end k) e)

        go :
            (s : Bool) → leb (length bytes) at ≡ s → (r : Result Kind UnknownKind) → asked ≡ r →
            P (cond s (Err End) (body_at bytes (at + 1) r))
        go true p r q = none (leb-true (length bytes) at p)
        go false p (Err e) q = bad (leb-false (length bytes) at p) q
        go false p (Ok k) q =
            sized k (ltb (length bytes) (end k)) refl (leb-false (length bytes) at p) q

-- a whole record ends within the bytes, 4 to 11 bytes after its place
pub record Within (bytes : List ℕ) (at next : ℕ) : Type 0 where
  pub end : next ≤ length bytes
  pub least : at + 4 ≤ next

module _ (runs : Bool) (bytes : List ℕ) (at : ℕ) where
  pub whole_within : {w : Record} (next : ℕ) → next_record runs bytes at ≡ Ok (w, next) → Within bytes at next
  whole_within {w} next =
      by_tests runs bytes at (λ n. n ≡ Ok (w, next) → Within bytes at next)
      (λ h e. cc) (λ h f e. cc) (λ h k f g e. cc)
      (λ h k f g e.
      let whole : whole_at bytes (at + 1) k ≡ (w, next) = cc in
      let same : at + 1 + (layout_of k).first + (layout_of k).second ≡ next = ap (λ (p : Record × ℕ). p.1) whole in
      record { end = omega arith; least = omega (arith, (small k).least) })

  pub cut_short : next_record runs bytes at ≡ Err Cut → length bytes < at + 11
  cut_short =
      by_tests runs bytes at (λ n. n ≡ Err Cut → length bytes < at + 11)
      (λ h e. cc) (λ h f e. cc) (λ h k f g e. omega (arith, (small k).most)) (λ h k f g e. cc)
