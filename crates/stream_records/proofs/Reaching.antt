-- A record that ends moves the offset by its bytes.
use Prim.Native.Nat.{ℕ, ◌+◌, ◌≤◌}
use native.Mathlib.Omega.{arith}
use mathlib.Core.Path.{◌≡◌, refl}
use mathlib.Core.Bool.{Bool, true, false, cond}
use mathlib.Core.List.{List, [], ◌∷◌, ◌++◌}
use Rattle.std.specs.Prelude.{Option, Some, None, Ok, Err}
use Rattle.stream_records.specs.Record.{Next, next_record}
use Rattle.stream_records.specs.Progress.{Progress, advance, taken_by, taken, searched, first_of, found}
use Rattle.stream_records.specs.declared.record.Record.{Record}
use Rattle.stream_records.specs.declared.record.NoRecord.TheVariants.{Cut, Unknown, End}
use Rattle.stream_records.proofs.Next.{whole_within}

module _ (r : Progress) (byte : ℕ) where
  abbrev bytes : List ℕ
  bytes = r.pending ++ byte ∷ []

  pub taken_far : (w : Record) → (taken r byte).whole ≡ Some w → r.offset + 4 ≤ (taken r byte).progress.offset
  unfolding taken
  taken_far w = by r.stopped (next_record r.runs bytes 0) refl
    where
      by :
          (t : Bool) (n : Next) → next_record r.runs bytes 0 ≡ n →
          (cond t (advance None r) (taken_by r bytes n)).whole ≡ Some w →
          r.offset + 4 ≤ (cond t (advance None r) (taken_by r bytes n)).progress.offset
      by true n p e = cc
      by false (Ok (v, next)) p e = omega (arith, (whole_within r.runs bytes 0 next p).least)
      by false (Err Cut) p e = cc
      by false (Err Unknown) p e = cc
      by false (Err End) p e = cc

  pub taken_onward : r.offset ≤ (taken r byte).progress.offset
  unfolding taken
  taken_onward = by r.stopped (next_record r.runs bytes 0)
    where
      by : (t : Bool) (n : Next) → r.offset ≤ (cond t (advance None r) (taken_by r bytes n)).progress.offset
      by true n = omega arith
      by false (Ok (v, next)) = omega arith
      by false (Err Cut) = omega arith
      by false (Err Unknown) = omega arith
      by false (Err End) = omega arith

pub found_far :
    (r : Progress) (bytes : List ℕ) (w : Record) → (found r bytes).whole ≡ Some w →
    r.offset + 4 ≤ (found r bytes).progress.offset
unfolding found
found_far r [] w e = cc
found_far r (b ∷ bs) w e =
    by (taken r b).whole refl (taken r b).progress refl e (found_far (taken r b).progress bs w)
  where
    by :
        (v : Option Record) → (taken r b).whole ≡ v → (s : Progress) → (taken r b).progress ≡ s →
        (first_of v (searched v s bs) (found s bs)).whole ≡ Some w →
        ((found s bs).whole ≡ Some w → s.offset + 4 ≤ (found s bs).progress.offset) →
        r.offset + 4 ≤ (first_of v (searched v s bs) (found s bs)).progress.offset
    by (Some u) p s q e later = rw q at (taken_far r b u p)
    by None p s q e later = omega (arith, rw q at (taken_onward r b), later e)
