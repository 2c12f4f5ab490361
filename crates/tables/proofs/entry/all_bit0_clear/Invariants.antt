use mathlib.Core.Path.{◌≡◌}
use Rattle.tables.specs.Entry.{clear_below}
use Rattle.tables.proofs.entry.all_bit0_clear.Given as goal

abbrev pub invariant-loop-entry : goal.invariant-loop-entry
invariant-loop-entry l = l.clear ≡ clear_below l.entry-index l.entries
