-- What is known of a pair that was found.
use Prim.Native.Nat.{ℕ, zero, suc, ◌+◌, ◌-◌, ◌<◌, ◌≤◌}
use mathlib.Core.Bool.{Bool, true, false, cond, ◌&&◌, ◌||◌}
use mathlib.Core.Path.{◌≡◌, refl, sym, ◌∙◌}
use mathlib.Core.Logic.{⊎_elim}
use native.Mathlib.Omega.{arith}
use borrow.Author.Tests.{leb-false}
use Rattle.bits.proofs.Booleans.{by_cond}
use lib.Dec.{leb}
use Rattle.walk_operands.specs.declared.mask.Mask.{Mask}
use Rattle.walk_operands.specs.Mask.{is_on}
use Rattle.walk_pairs.specs.declared.Side.{Side}
use Rattle.walk_pairs.specs.declared.Pair.TheVariants.{Found, Zeroed, End}
use Rattle.walk_pairs.specs.Side.{start, next, past}
use Rattle.walk_pairs.specs.Pair.{first_on, skips, skipped, off, met, pair_from, Meets}
use Rattle.walk_pairs.proofs.Skipping.{not_past, skipped_still, Rests}

-- at a pair both sides have come to rest
pub record Rest (a b : Side) (vl i₀ j₀ i j : ℕ) : Type 0 where
  pub source : Rests a vl i₀ i (off a i)
  pub destination : Rests b vl j₀ j (off b j)

end_meets : (i j : ℕ) → Meets End i j → ⊥
end_meets i j = ⊎_elim (λ e. let z : ◌≡◌ {A = ℕ} 0 1 = cc in absurd (omega arith)) (λ e. let z : ◌≡◌ {A = ℕ} 0 1 = cc in absurd (omega arith))

met_at : (t : Bool) (x y i j : ℕ) → Meets (cond t (Zeroed x y) (Found x y)) i j → (x ≡ i) × (y ≡ j)
met_at true x y i j = ⊎_elim (λ e. let z : ◌≡◌ {A = ℕ} 0 1 = cc in absurd (omega arith)) (λ e. (cc, cc))
met_at false x y i j = ⊎_elim (λ e. (cc, cc)) (λ e. let z : ◌≡◌ {A = ℕ} 0 1 = cc in absurd (omega arith))

pub pair_rest :
    (a b : Side) (vl i₀ j₀ i j : ℕ) → Meets (pair_from a b vl i₀ j₀) i j → Rest a b vl i₀ j₀ i j
unfolding pair_from met
pair_rest a b vl i₀ j₀ i j = by (past a vl (skipped a vl i₀)) (past b vl (skipped b vl j₀)) refl refl
  where
    by :
        (t u : Bool) → past a vl (skipped a vl i₀) ≡ t → past b vl (skipped b vl j₀) ≡ u →
        Meets (cond (t || u) End (met a b (skipped a vl i₀) (skipped b vl j₀))) i j → Rest a b vl i₀ j₀ i j
    by true u p q e = absurd (end_meets i j e)
    by false true p q e = absurd (end_meets i j e)
    by false false p q e =
        let both = met_at (off a (skipped a vl i₀) || off b (skipped b vl j₀)) _ _ i j e in
        record {
          source = record { here = both.0; below = rw (← both.0) (not_past a vl (skipped a vl i₀) p); off = refl };
          destination =
              record { here = both.1; below = rw (← both.1) (not_past b vl (skipped b vl j₀) q); off = refl };
        }

first_from : (mask : Mask) (k i : ℕ) → i ≤ first_on mask k i
unfolding first_on
first_from mask zero i = omega arith
first_from mask (suc k) i = by (is_on mask i) (first_from mask k (i + 1))
  where
    by : (t : Bool) → i + 1 ≤ first_on mask k (i + 1) → i ≤ cond t i (first_on mask k (i + 1))
    by true h = omega arith
    by false h = omega arith

module _ {s : Side} {vl i₀ i : ℕ} {t : Bool} (r : Rests s vl i₀ i t) where
  pub rests_start : s.walks ≡ false → i ≡ i₀
  rests_start w = sym r.here ∙ skipped_still s vl i₀ w

  pub rests_from : i₀ ≤ i
  unfolding skipped
  rests_from =
      rw (← r.here) (by_cond (λ x. i₀ ≤ x) (skips s) (λ e. first_from s.mask (vl - i₀) i₀) (λ e. omega arith))

  pub rests_below : i₀ < vl → i < vl
  rests_below h = by s.walks refl
    where
      by : (t : Bool) → s.walks ≡ t → i < vl
      by true w = r.below w
      by false w = rw (rests_start w) h

-- a pair lies below VL where the starts do
pub pair_in :
    (a b : Side) (vl i₀ j₀ i j : ℕ) → i₀ < vl → j₀ < vl → Meets (pair_from a b vl i₀ j₀) i j → (i < vl) × (j < vl)
pair_in a b vl i₀ j₀ i j p q met =
    let r = pair_rest a b vl i₀ j₀ i j met in (rests_below r.source p, rests_below r.destination q)

-- a side starts below VL where its offset is, and goes on below VL where it has not reached it
module _ (s : Side) (vl i : ℕ) where
  pub start_in : i < vl → start s i < vl
  unfolding start
  start_in h = by s.walks
    where
      by : (t : Bool) → cond t i 0 < vl
      by true = h
      by false = omega arith

  pub next_in : i < vl → past s vl (next s i) ≡ false → next s i < vl
  unfolding next past
  next_in h = by s.walks
    where
      by : (t : Bool) → (t && leb vl (cond t (i + 1) i)) ≡ false → cond t (i + 1) i < vl
      by true e = leb-false vl (i + 1) e
      by false e = h
