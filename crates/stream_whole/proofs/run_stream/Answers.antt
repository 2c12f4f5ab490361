use Rattle.std.proofs.Common.{arith, rules}
use Rattle.stream_whole.proofs.Whole.{no_end, Given, refused, inside, never, both_within, total}
use Rattle.stream_whole.proofs.run_stream.Goals.{After-feed}
use Rattle.stream_whole.proofs.run_stream.Goals as goal

pub returns-then-out-lt-LAST_ROOM : goal.returns-then-out-lt-LAST_ROOM
returns-then-out-lt-LAST_ROOM c = no_end _ _ c.if-out-lt-LAST_ROOM.true

-- the first part of `out` as it was lent, and what is fed into it
given : (c : After-feed) → Given c.args.bytes.now c.args.out.now c.feed.result c.feed.new.memory c.feed.new.out
given c = record {
  counted = search rules;
  sized = search rules;
  enough = c.if-out-lt-LAST_ROOM.false;
  kept = c.feed.auto.out;
  same = rw (c.fresh-2.ensures, c.fresh.ensures) at c.feed.ensures;
}

pub returns-in_err-fed : goal.returns-in_err-fed
returns-in_err-fed c =
    refused (given (goal.at.returns-in_err-fed c).After-feed) c.in_err-fed.was c.from_residual.ensures.0

pub slice_bounds-finish-count : goal.slice_bounds-finish-count
slice_bounds-finish-count c = inside (given (goal.at.slice_bounds-finish-count c).After-feed) _ c.in_ok-fed.was

pub slice_bounds-finish-start : goal.slice_bounds-finish-start
slice_bounds-finish-start c = inside (given (goal.at.slice_bounds-finish-start c).After-feed) _ c.in_ok-fed.was

pub returns-in_err-more : goal.returns-in_err-more
returns-in_err-more c =
    let g = given (goal.at.returns-in_err-more c).After-feed in
    absurd (never g _ c.in_ok-fed.was _ _ c.finish.ensures c.in_err-more.was)

pub overflow_add-result : goal.overflow_add-result
overflow_add-result c =
    let g = given (goal.at.overflow_add-result c).After-feed in
    let both = both_within g _ c.in_ok-fed.was _ _ c.finish.ensures _ c.in_ok-more.was c.finish.auto.out in
    omega (arith, both.0, both.1, g.sized)

pub returns : goal.returns
returns c =
    total (given (goal.at.returns c).After-feed) _ c.in_ok-fed.was _ _ c.finish.ensures _ c.in_ok-more.was
