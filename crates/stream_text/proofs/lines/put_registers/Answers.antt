use Rattle.std.proofs.Common.{arith}
use Rattle.stream_text.proofs.Puts.{register_more}
use Rattle.stream_text.proofs.lines.put_registers.Goals as goal

pub loop-i-preserved : goal.loop-i-preserved
loop-i-preserved c =
    let next = c.put_nonzero-next.ensures in
    record { room = omega (arith, next.1); put = register_more _ _ c.loop-i.invariant.put next.0 }
