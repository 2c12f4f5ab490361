use Rattle.std.proofs.Common.{◌≡◌, false, cond, sym, ◌∙◌}
use Rattle.walk_pairs.specs.declared.Pair.TheVariants.{Found, Zeroed}
use Rattle.walk_pairs.specs.Pair.{pair_from}
use Rattle.walk_pairs.proofs.Skipping.{rests_on}
use Rattle.walk_pairs.proofs.Skipping.{next_past, source_ends, destination_ends, both_rest}
use Rattle.walk_pairs.proofs.Noting.{Noted, noted_on, noted_next, noted_zeroing, noted_still, noted_pair}
use Rattle.walk_pairs.proofs.find_pair.Goals.{then-is_on+else-source_on, else-is_on+then-destination_skips+else-j-vl}
use Rattle.walk_pairs.proofs.find_pair.Goals.{else-is_on+else-destination_skips+then-destination}
use Rattle.walk_pairs.proofs.find_pair.Goals.{else-is_on+else-destination_skips+else-destination, else-not-source_on}
use Rattle.walk_pairs.proofs.find_pair.Goals.{then-not-source_on+then-source_skips+else-i-vl}
use Rattle.walk_pairs.proofs.find_pair.Goals.{then-not-source_on+else-source_skips+then-source}
use Rattle.walk_pairs.proofs.find_pair.Goals.{then-not-source_on+else-source_skips+else-source}
use Rattle.walk_pairs.proofs.find_pair.Goals.{Joined-not-source_on}
use Rattle.walk_pairs.proofs.find_pair.Goals as goal

pub returns-then-source_on : goal.returns-then-source_on
returns-then-source_on c =
    let inv = c.pair.invariant in
    rw (inv.0, inv.1)
    (both_rest _ _ _ _ _ _ _ false false
    (rests_on _ _ _ c.requires.1 (rw inv.0 at (sym c.is_on-source_on.ensures ∙ c.if-source_on.true)))
    (rests_on _ _ _ c.requires.2 (rw inv.1 at (sym c.is_on.ensures ∙ c.if-is_on.true))))

pub returns-then-j-vl : goal.returns-then-j-vl
returns-then-j-vl c =
    let inv = c.pair.invariant in
    destination_ends _ _ _ _ _
    (next_past _ _ _ _ (sym c.skips-destination_skips.ensures ∙ c.if-destination_skips.true) c.requires.2
    (rw inv.1 at (sym c.is_on.ensures ∙ c.if-is_on.false)) (rw inv.1 at c.next_on-j.ensures) c.if-j-vl.true)

pub returns-then-i-vl : goal.returns-then-i-vl
returns-then-i-vl c =
    let inv = c.pair.invariant in
    source_ends _ _ _ _ _
    (next_past _ _ _ _ (sym c.skips-source_skips.ensures ∙ c.if-source_skips.true) c.requires.1
    (rw inv.0 at (sym c.is_on-source_on.ensures ∙ c.if-not-source_on.true)) (rw inv.0 at c.next_on-i.ensures)
    c.if-i-vl.true)

-- where the destination comes to rest, and then the source
returned :
    (c : Joined-not-source_on) →
    let args = c.args in
    cond c.if-not-source_on.zeroed (Zeroed c.if-not-source_on.i c.if-is_on.j) (Found c.if-not-source_on.i c.if-is_on.j)
    ≡ pair_from args.source args.destination args.vl args.i0 args.j0
returned c =
    let inv = c.pair.invariant in
    let on = sym c.is_on.ensures in
    let source_on = sym c.is_on-source_on.ensures in
    let skips = sym c.skips-destination_skips.ensures in
    let source_skips = sym c.skips-source_skips.ensures in
    let destination : Noted c.args.destination c.args.vl c.args.j0 c.if-is_on.j false c.if-is_on.zeroed =
    elim c.if-is_on.branch [
      | then-is_on+else-source_on w ↦
          noted_on inv.1 c.requires.2 (on ∙ w.if-is_on.true) w.j-is (w.zeroed-is ∙ inv.2)
      | else-is_on+then-destination_skips+else-j-vl w ↦
          noted_next inv.1 c.requires.2 (on ∙ w.if-is_on.false) (skips ∙ w.if-destination_skips.true)
          w.next_on-j.ensures w.if-j-vl.false w.j-is (w.zeroed-is ∙ inv.2)
      | else-is_on+else-destination_skips+then-destination w ↦
          noted_zeroing inv.1 c.requires.2 (on ∙ w.if-is_on.false) w.if-destination.true
          (skips ∙ w.if-destination_skips.false) w.j-is w.zeroed-is
      | else-is_on+else-destination_skips+else-destination w ↦
          noted_still inv.1 w.if-destination.false w.j-is (w.zeroed-is ∙ inv.2)
    ] in
    let source : Noted c.args.source c.args.vl c.args.i0 c.if-not-source_on.i c.if-is_on.zeroed c.if-not-source_on.zeroed =
    elim c.if-not-source_on.branch [
      | then-not-source_on+then-source_skips+else-i-vl w ↦
          noted_next inv.0 c.requires.1 (source_on ∙ w.if-not-source_on.true)
          (source_skips ∙ w.if-source_skips.true) w.next_on-i.ensures w.if-i-vl.false w.i-is w.zeroed-is
      | then-not-source_on+else-source_skips+then-source w ↦
          noted_zeroing inv.0 c.requires.1 (source_on ∙ w.if-not-source_on.true) w.if-source.true
          (source_skips ∙ w.if-source_skips.false) w.i-is w.zeroed-is
      | then-not-source_on+else-source_skips+else-source w ↦ noted_still inv.0 w.if-source.false w.i-is w.zeroed-is
      | else-not-source_on w ↦
          noted_on inv.0 c.requires.1 (source_on ∙ w.if-not-source_on.false) w.i-is w.zeroed-is
    ] in
    noted_pair _ _ _ _ _ _ _ _ _ destination source

pub returns-then-zeroed : goal.returns-then-zeroed
returns-then-zeroed c = rw c.if-zeroed.true at (returned c.before)

pub returns-else-zeroed : goal.returns-else-zeroed
returns-else-zeroed c = rw c.if-zeroed.false at (returned c.before)
