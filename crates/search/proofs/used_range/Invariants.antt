use Prim.Native.Nat.{◌*◌, ◌≤◌}
use Rattle.search.specs.Search.{FindsEnabled}
use Rattle.search.proofs.used_range.Given as goal

abbrev pub invariant-loop-pair : goal.invariant-loop-pair
invariant-loop-pair l =
    (l.first ≤ 2 * l.pair)
    × FindsEnabled l.fn.cfg l.register_table l.predicate_table (record { first = l.first; end = 2 * l.pair })
