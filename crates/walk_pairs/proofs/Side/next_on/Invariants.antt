use Prim.Native.Nat.{◌-◌, ◌≤◌}
use mathlib.Core.Path.{◌≡◌}
use Rattle.walk_pairs.proofs.Halving.{first_odd}
use Rattle.walk_pairs.proofs.Side.next_on.Given as goal

abbrev pub invariant-loop-rest : goal.invariant-loop-rest
invariant-loop-rest l = (l.k ≤ l.vl) × (first_odd (l.vl - l.k) l.rest l.k ≡ first_odd (l.vl - l.initial.k) l.initial.rest l.initial.k)

abbrev pub decreases-loop-rest : goal.decreases-loop-rest
decreases-loop-rest l = l.vl - l.k
