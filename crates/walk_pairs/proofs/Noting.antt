-- Where a side comes to rest, with a flag that notes whether it is off there.
use Prim.Native.Nat.{ℕ, ◌+◌, ◌-◌, ◌<◌}
use mathlib.Core.Bool.{Bool, true, false, cond, ◌||◌}
use mathlib.Core.Path.{◌≡◌, refl, ◌∙◌}
use Rattle.walk_pairs.specs.declared.Side.{Side}
use Rattle.walk_pairs.specs.declared.Pair.TheVariants.{Found, Zeroed}
use Rattle.walk_operands.specs.Mask.{is_on}
use Rattle.walk_pairs.specs.Pair.{first_on, skips, pair_from}
use Rattle.walk_pairs.proofs.Skipping.{or_true, Rests, both_rest, rests_still, rests_on, rests_zeroing, rests_next}

or_none : (t : Bool) → t ≡ (t || false)
or_none true = refl
or_none false = refl

either : (t u : Bool) → (t || u) ≡ (u || t)
either true true = refl
either true false = refl
either false true = refl
either false false = refl

-- the flag was t before
pub record Noted (s : Side) (vl i₀ i : ℕ) (t flag : Bool) : Type 0 where
  pub is_off : Bool
  pub rests : Rests s vl i₀ i is_off
  pub noted : flag ≡ (t || is_off)

module _ {s : Side} {vl i₀ i : ℕ} {t flag : Bool} where
  noted_off : Rests s vl i₀ i true → flag ≡ true → Noted s vl i₀ i t flag
  noted_off r f = record { is_off = true; rests = r; noted = f ∙ or_true t }

  noted_not : Rests s vl i₀ i false → flag ≡ t → Noted s vl i₀ i t flag
  noted_not r f = record { is_off = false; rests = r; noted = f ∙ or_none t }

-- from i, where it starts, it comes to j
module _ {s : Side} {vl i₀ i j : ℕ} {t flag : Bool} (starts : i ≡ i₀) where
  pub noted_still : s.walks ≡ false → j ≡ i → flag ≡ t → Noted s vl i₀ j t flag
  noted_still w e f = rw (e, starts) (noted_not (rests_still _ _ _ w) f)

  module _ (below : i₀ < vl) where
    pub noted_on : is_on s.mask i ≡ true → j ≡ i → flag ≡ t → Noted s vl i₀ j t flag
    noted_on on e f = rw (e, starts) (noted_not (rests_on _ _ _ below (rw starts at on)) f)

    module _ (on : is_on s.mask i ≡ false) where
      pub noted_zeroing : s.walks ≡ true → skips s ≡ false → j ≡ i → flag ≡ true → Noted s vl i₀ j t flag
      noted_zeroing w k e f = rw (e, starts) (noted_off (rests_zeroing _ _ _ w below (rw starts at on) k) f)

      pub noted_next :
          {k : ℕ} → skips s ≡ true → k ≡ first_on s.mask (vl - (i + 1)) (i + 1) → k < vl → j ≡ k → flag ≡ t →
          Noted s vl i₀ j t flag
      noted_next skip next h e f =
          rw e (noted_not (rests_next _ _ _ _ skip below (rw starts at on) (rw starts at next) h) f)

-- the pair by what the flag has noted of both sides
pub noted_pair :
    (source destination : Side) (vl i₀ j₀ i j : ℕ) (t flag : Bool) → Noted destination vl j₀ j false t →
    Noted source vl i₀ i t flag →
    cond flag (Zeroed i j) (Found i j) ≡ pair_from source destination vl i₀ j₀
noted_pair source destination vl i₀ j₀ i j t flag d s =
    rw (s.noted, d.noted, either d.is_off s.is_off)
    (both_rest source destination vl i₀ j₀ i j _ _ s.rests d.rests)
