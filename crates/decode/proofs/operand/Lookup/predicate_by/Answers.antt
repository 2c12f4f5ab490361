use borrow.Author.Rules.{rules}
use Rattle.decode.proofs.Held.{held_below}
use Rattle.decode.proofs.operand.Lookup.predicate_by.Goals as goal

pub offset_bounds-self-i : goal.offset_bounds-self-i
offset_bounds-self-i c = let below = held_below _ _ _ _ c.held_entry.ensures c.in-Some.is in search rules

pub bounds-self-i : goal.bounds-self-i
bounds-self-i c = held_below _ _ _ _ c.held_entry.ensures c.in-Some.is
