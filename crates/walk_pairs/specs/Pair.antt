-- The pair of positions is found by skipping on both sides to the next one that is on; if either reaches VL there is
-- none. A walking side whose mask has zeroing isn't skipped at an off position.
use Rattle.std.specs.Prelude.{ℕ, zero, suc, ◌+◌, ◌-◌, Bool, cond, not, ◌&&◌, ◌||◌, ◌≡◌, ◌⊎◌}
use Rattle.walk_operands.specs.declared.mask.Mask.{Mask}
use Rattle.walk_operands.specs.Mask.{is_on}
use Rattle.walk_pairs.specs.declared.Side.{Side}
use Rattle.walk_pairs.specs.declared.Pair.{Pair}
use Rattle.walk_pairs.specs.declared.Pair.TheVariants.{Found, Zeroed, End}
use Rattle.walk_pairs.specs.Side.{past}

-- the first of the k positions from i on that is on, and the one after them if none is
unfoldable pub first_on : Mask → ℕ → ℕ → ℕ
first_on mask zero i = i
first_on mask (suc k) i = cond (is_on mask i) i (first_on mask k (i + 1))

-- a side that is skipped where its mask is off
unfoldable pub skips : Side → Bool
skips s = s.walks && not s.mask.zeroing

-- where a side stands after skipping, never past VL
unfoldable pub skipped : Side → ℕ → ℕ → ℕ
skipped s vl i = cond (skips s) (first_on s.mask (vl - i) i) i

-- a walking side at a position that is off
unfoldable pub off : Side → ℕ → Bool
off s i = s.walks && not (is_on s.mask i)

-- both sides at the positions that they skipped to
unfoldable pub met : Side → Side → ℕ → ℕ → Pair
met source destination i j = cond (off source i || off destination j) (Zeroed i j) (Found i j)

unfoldable pub pair_from : Side → Side → ℕ → ℕ → ℕ → Pair
pair_from source destination vl i j =
    cond (past source vl (skipped source vl i) || past destination vl (skipped destination vl j))
    End
    (met source destination (skipped source vl i) (skipped destination vl j))

-- the positions of a pair, whether or not it is zeroed
abbrev pub Meets : Pair → ℕ → ℕ → Type 0
Meets pair i j = (pair ≡ Found i j) ⊎ (pair ≡ Zeroed i j)
