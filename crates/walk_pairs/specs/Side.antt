-- One side of a move, a load or a store. A side that doesn't walk ignores its offset: it stands at position 0.
use Rattle.std.specs.Prelude.{ℕ, ◌+◌, Bool, cond, ◌&&◌, leb}
use Rattle.walk_pairs.specs.declared.Side.{Side}

-- where it starts, by its offset
unfoldable pub start : Side → ℕ → ℕ
start s offset = cond s.walks offset 0

-- each walking side goes up by one
unfoldable pub next : Side → ℕ → ℕ
next s i = cond s.walks (i + 1) i

-- whether a walking side has reached VL
unfoldable pub past : Side → ℕ → ℕ → Bool
past s vl i = s.walks && leb vl i
