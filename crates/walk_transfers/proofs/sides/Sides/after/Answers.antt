use Rattle.std.proofs.Common.{inl, inr}
use Rattle.walk_transfers.proofs.After.{Ends, ends_by_source, ends_by_destination, goes_on}
use Rattle.walk_transfers.proofs.sides.Sides.after.Goals.{then-self, else-self}
use Rattle.walk_transfers.proofs.sides.Sides.after.Goals as goal

pub returns-then-source-end : goal.returns-then-source-end
returns-then-source-end c =
    let ends : Ends c.args.self c.if-self.end =
    elim c.if-self.branch [
      | then-self w ↦ inl (w.if-self.true, w.end-is)
      | else-self w ↦ inr (w.if-self.false, w.end-is)
    ] in
    rw c.ended.ensures
    (ends_by_source _ _ _ _ _ _ c.requires.0 c.requires.1 ends (rw (← c.next-source.ensures) c.if-source-end.true))

pub returns-then-destination-end : goal.returns-then-destination-end
returns-then-destination-end c =
    let ends : Ends c.args.self c.if-self.end =
    elim c.if-self.branch [
      | then-self w ↦ inl (w.if-self.true, w.end-is)
      | else-self w ↦ inr (w.if-self.false, w.end-is)
    ] in
    rw c.ended-then-destination-end.ensures
    (ends_by_destination _ _ _ _ _ _ c.requires.0 c.requires.1 ends
    (rw (← c.next-source.ensures) c.if-source-end.false)
    (rw (← c.next-destination.ensures) c.if-destination-end.true))

pub returns : goal.returns
returns c =
    let ends : Ends c.args.self c.if-self.end =
    elim c.if-self.branch [
      | then-self w ↦ inl (w.if-self.true, w.end-is)
      | else-self w ↦ inr (w.if-self.false, w.end-is)
    ] in
    rw (c.onward.ensures, c.next-source.ensures, c.next-destination.ensures)
    (goes_on _ _ _ _ _ _ c.requires.0 c.requires.1 ends (rw (← c.next-source.ensures) c.if-source-end.false)
    (rw (← c.next-destination.ensures) c.if-destination-end.false))
