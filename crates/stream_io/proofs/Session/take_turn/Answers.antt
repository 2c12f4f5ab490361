use Rattle.std.proofs.Common.{◌≡◌}
use Rattle.stream_io.proofs.Onward.{next_last, whole, onward as fed_on}
use Rattle.stream_io.proofs.Session.take_turn.Goals as goal

pub write_last-requires : goal.write_last-requires
write_last-requires g c = next_last _ _ c.requires

pub returns-then-n-eq0 : goal.returns-then-n-eq0
returns-then-n-eq0 g c =
    let count = c.write_last.ensures.count _ c.in_ok-written.was in
    record {
      onward = λ e. cc;
      ended = λ n e.
          let same : c.in_ok-written.written ≡ n = cc in
          whole _ _ c.requires n (rw same at count);
    }

pub returns : goal.returns
returns g c =
    let by = c.in_ok-feed_and_write.ensures in
    record { onward = λ e. fed_on _ _ c.requires _ _ _ by.stream by.count; ended = λ n e. cc }
