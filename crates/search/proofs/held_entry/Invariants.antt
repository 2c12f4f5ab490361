use mathlib.Core.Path.{◌≡◌}
use Rattle.search.specs.Search.{candidate, highest, held_entry}
use Rattle.search.proofs.held_entry.Given as goal

abbrev pub invariant-loop-i : goal.invariant-loop-i
invariant-loop-i l =
    held_entry l.table l.entries l.fn.range l.key ≡ highest (candidate l.table l.entries l.fn.range l.key) l.i
