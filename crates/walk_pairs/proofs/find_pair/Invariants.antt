use Rattle.std.proofs.Common.{◌≡◌, false}
use Rattle.walk_pairs.proofs.find_pair.Given as goal

-- the loop has one turn
abbrev pub invariant-pair : goal.invariant-pair
invariant-pair l = (l.i ≡ l.i0) × (l.j ≡ l.j0) × (l.zeroed ≡ false)

abbrev pub decreases-pair : goal.decreases-pair
decreases-pair l = 0
