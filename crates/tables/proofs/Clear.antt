-- The test of bit 0 over the predicate table, after one entry is replaced.
use Prim.Native.Nat.{ℕ, zero, suc, ◌<◌}
use mathlib.Core.Path.{◌≡◌, refl}
use mathlib.Core.Bool.{Bool, true, false}
use mathlib.Core.List.{List}
use lib.Dec.{eqb, ltb}
use lib.ListN.{length, get_or, set}
use lib.Seq.{set_out, get_or-set_same, get_or-set_other}
use native.Mathlib.Omega.{arith}
use borrow.Author.Tests.{eqb-true, eqb-false, ltb-true, ltb-false}
use Rattle.tables.specs.Entry.{bit0_clear, clear_below}
use Rattle.bits.proofs.Booleans.{and_left, and_right}

module _ (entries : List ℕ) (i entry : ℕ) (clear : bit0_clear entry ≡ true) where
  -- each entry is the new one or an old one
  set_at : (k : ℕ) → bit0_clear (get_or entries k 0) ≡ true → bit0_clear (get_or (set entries i entry) k 0) ≡ true
  set_at k old = by (eqb k i) refl (ltb i (length entries)) refl
    where
      by :
          (same : Bool) → eqb k i ≡ same → (inside : Bool) → ltb i (length entries) ≡ inside →
          bit0_clear (get_or (set entries i entry) k 0) ≡ true
      by false other inside e = rw (get_or-set_other entries i k entry 0 (eqb-false k i other)) old
      by true same true e =
          rw (eqb-true k i same, get_or-set_same entries i entry 0 (ltb-true i (length entries) e)) clear
      by true same false e = rw (set_out entries i entry (ltb-false i (length entries) e)) old

  pub clear_set : (n : ℕ) → clear_below n entries ≡ true → clear_below n (set entries i entry) ≡ true
  unfolding clear_below
  clear_set zero h = refl
  clear_set (suc n) h =
      rw (clear_set n (and_left _ _ h), set_at n (and_right (clear_below n entries) _ h))

-- one entry of a table that passes
pub clear_at :
    (n : ℕ) (entries : List ℕ) (k : ℕ) → k < n → clear_below n entries ≡ true → bit0_clear (get_or entries k 0) ≡ true
unfolding clear_below
clear_at zero entries k l h = absurd (omega arith)
clear_at (suc n) entries k l h = by (eqb k n) refl (λ m. clear_at n entries k m (and_left _ _ h))
  where
    by : (t : Bool) → eqb k n ≡ t → (k < n → bit0_clear (get_or entries k 0) ≡ true) → bit0_clear (get_or entries k 0) ≡ true
    by true e below = rw (eqb-true k n e) (and_right (clear_below n entries) _ h)
    by false e below = below (omega (arith, eqb-false k n e))
