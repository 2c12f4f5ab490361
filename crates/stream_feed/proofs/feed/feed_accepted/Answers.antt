use Rattle.std.proofs.Common.{rules}
use Rattle.stream_feed.proofs.Accepting.{accepted}
use Rattle.stream_feed.proofs.Feeding.{started, falls, fits, stepped, ended}
use Rattle.stream_feed.proofs.feed.feed_accepted.Goals as goal

pub loop-record-init : goal.loop-record-init
loop-record-init c = started _ _ _ _ _ (accepted _ _ _ c.requires)

pub returns-in_default : goal.returns-in_default
returns-in_default c =
    ended _ _ _ _ _ c.loop-record.invariant c.find-found.result c.find-found.ensures.finding c.in_default.is

pub apply_and_print-written-requires : goal.apply_and_print-written-requires
apply_and_print-written-requires c =
    fits _ _ _ _ _ c.loop-record.invariant c.find-found.result c.find-found.ensures.finding _ c.in-Some.is

pub loop-record-smaller : goal.loop-record-smaller
loop-record-smaller c =
    falls _ _ _ _ _ c.loop-record.invariant c.find-found.result c.find-found.ensures.finding _ c.in-Some.is

pub loop-record-preserved : goal.loop-record-preserved
loop-record-preserved c =
    let applying = c.apply_and_print-written.ensures in
    stepped _ _ _ _ _ c.loop-record.invariant c.find-found.result c.find-found.ensures.finding _ c.in-Some.is applying
    (search rules)
