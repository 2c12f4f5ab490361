use Rattle.stream_io.proofs.Onward.{begun}
use Rattle.stream_io.proofs.run_descriptor.Goals as goal

pub loop-init : goal.loop-init
loop-init g c = rw c.fresh-session.ensures begun
