-- Where a side comes to rest by skipping.
use Prim.Native.Nat.{ℕ, zero, suc, ◌+◌, ◌-◌, ◌<◌, ◌≤◌}
use mathlib.Core.Bool.{Bool, true, false, cond, ◌&&◌, ◌||◌, true≢false}
use mathlib.Core.Path.{◌≡◌, refl, sym, ◌∙◌}
use native.Mathlib.Omega.{arith}
use borrow.Author.Tests.{le-leb, lt-leb, leb-false}
use lib.Dec.{leb}
use Rattle.walk_operands.specs.declared.mask.Mask.{Mask}
use Rattle.walk_operands.specs.Mask.{is_on}
use Rattle.walk_pairs.specs.declared.Side.{Side}
use Rattle.walk_pairs.specs.declared.Pair.TheVariants.{Found, Zeroed, End}
use Rattle.walk_pairs.specs.Side.{past}
use Rattle.walk_pairs.specs.Pair.{first_on, skips, skipped, off, met, pair_from}
use Rattle.walk_pairs.proofs.Halving.{remaining}
use Rattle.bits.proofs.Booleans.{and_left, by_cond}

pub or_true : (t : Bool) → true ≡ (t || true)
or_true true = refl
or_true false = refl

skips_walks : (s : Side) → skips s ≡ true → s.walks ≡ true
unfolding skips
skips_walks s = and_left s.walks _

-- short of the end, the first position that is on is one
is_on-first_on : (mask : Mask) (k i : ℕ) → first_on mask k i < i + k → is_on mask (first_on mask k i) ≡ true
unfolding first_on
is_on-first_on mask zero i h = absurd (omega arith)
is_on-first_on mask (suc k) i h = by (is_on mask i) refl (is_on-first_on mask k (i + 1)) h
  where
    by :
        (t : Bool) → is_on mask i ≡ t →
        (first_on mask k (i + 1) < i + 1 + k → is_on mask (first_on mask k (i + 1)) ≡ true) →
        cond t i (first_on mask k (i + 1)) < i + suc k → is_on mask (cond t i (first_on mask k (i + 1))) ≡ true
    by true e on h = e
    by false e on h = on (omega (arith, h))

module _ (s : Side) (vl i : ℕ) where
  past_end : s.walks ≡ true → vl ≤ i → past s vl i ≡ true
  unfolding past
  past_end w h = rw (w, le-leb vl i h)

  past_not : (s.walks ≡ true → i < vl) → past s vl i ≡ false
  unfolding past
  past_not h = by s.walks refl
    where
      by : (t : Bool) → s.walks ≡ t → (t && leb vl i) ≡ false
      by true e = lt-leb vl i (h e)
      by false e = refl

  pub not_past : past s vl i ≡ false → s.walks ≡ true → i < vl
  unfolding past
  not_past e w = leb-false vl i (rw w at e)

  pub skipped_still : s.walks ≡ false → skipped s vl i ≡ i
  unfolding skipped skips
  skipped_still w = rw w

  skipped_on : i < vl → is_on s.mask i ≡ true → skipped s vl i ≡ i
  unfolding skipped first_on
  skipped_on h on = by_cond (λ x. x ≡ i) (skips s) (λ e. rw (remaining vl i h, on)) (λ e. refl)

  skipped_here : skips s ≡ false → skipped s vl i ≡ i
  unfolding skipped
  skipped_here e = rw e

  -- from a position that is off
  skipped_next :
      skips s ≡ true → i < vl → is_on s.mask i ≡ false →
      skipped s vl i ≡ first_on s.mask (vl - (i + 1)) (i + 1)
  unfolding skipped first_on is_on
  skipped_next k h e = rw (k, remaining vl i h, e)

  off_still : s.walks ≡ false → off s i ≡ false
  unfolding off
  off_still w = rw w

  off_on : is_on s.mask i ≡ true → off s i ≡ false
  unfolding off
  off_on on = rw on (by s.walks)
    where
      by : (t : Bool) → (t && false) ≡ false
      by true = refl
      by false = refl

  off_zeroing : s.walks ≡ true → is_on s.mask i ≡ false → off s i ≡ true
  unfolding off
  off_zeroing w e = rw (w, e)

-- A side that skips from i₀ comes to rest at i, below VL if it walks; there it is off, which takes zeroing, or not.
pub record Rests (s : Side) (vl i₀ i : ℕ) (is_off : Bool) : Type 0 where
  pub here : skipped s vl i₀ ≡ i
  pub below : s.walks ≡ true → i < vl
  pub off : off s i ≡ is_off

module _ (s : Side) (vl i : ℕ) where
  pub rests_still : s.walks ≡ false → Rests s vl i i false
  rests_still w = record {
    here = skipped_still s vl i w;
    below = λ e. absurd (true≢false (sym e ∙ w));
    off = off_still s vl i w;
  }

  pub rests_on : i < vl → is_on s.mask i ≡ true → Rests s vl i i false
  rests_on h on = record { here = skipped_on s vl i h on; below = λ e. h; off = off_on s vl i on }

  pub rests_zeroing : s.walks ≡ true → i < vl → is_on s.mask i ≡ false → skips s ≡ false → Rests s vl i i true
  rests_zeroing w h on k = record { here = skipped_here s vl i k; below = λ e. h; off = off_zeroing s vl i w on }

-- by the next position that is on, or VL
module _
    (s : Side) (vl i k : ℕ) (skip : skips s ≡ true) (h : i < vl) (on : is_on s.mask i ≡ false)
    (next : k ≡ first_on s.mask (vl - (i + 1)) (i + 1)) where
  here : skipped s vl i ≡ k
  here = skipped_next s vl i skip h on ∙ sym next

  pub rests_next : k < vl → Rests s vl i k false
  rests_next below =
      let inside : first_on s.mask (vl - (i + 1)) (i + 1) < i + 1 + (vl - (i + 1)) = rw (← next) (omega (arith, h, below)) in
      record {
        here = here;
        below = λ e. below;
        off = off_on s vl k (rw (← next) at (is_on-first_on s.mask (vl - (i + 1)) (i + 1) inside));
      }

  pub next_past : vl ≤ k → past s vl (skipped s vl i) ≡ true
  next_past above = rw here (past_end s vl k (skips_walks s skip) above)

rests_before_end : {s : Side} {vl i₀ i : ℕ} {t : Bool} → Rests s vl i₀ i t → past s vl (skipped s vl i₀) ≡ false
rests_before_end {s} {vl} {i₀} {i} {t} r = rw r.here (past_not s vl i r.below)

module _ (source destination : Side) (vl i₀ j₀ : ℕ) where
  pub source_ends : past source vl (skipped source vl i₀) ≡ true → End ≡ pair_from source destination vl i₀ j₀
  unfolding pair_from
  source_ends e = rw e

  pub destination_ends :
      past destination vl (skipped destination vl j₀) ≡ true → End ≡ pair_from source destination vl i₀ j₀
  unfolding pair_from
  destination_ends e = rw (e, ← or_true (past source vl (skipped source vl i₀)))

  pub both_rest :
      (i j : ℕ) (t u : Bool) → Rests source vl i₀ i t → Rests destination vl j₀ j u →
      cond (t || u) (Zeroed i j) (Found i j) ≡ pair_from source destination vl i₀ j₀
  unfolding pair_from met
  both_rest i j t u s d = rw (rests_before_end s, rests_before_end d, s.here, d.here, s.off, d.off)
