use Rattle.std.proofs.Common.{refl}
use Rattle.stream_io.proofs.Session.fresh.Goals as goal

pub returns : goal.returns
returns c = rw (c.fresh.ensures, c.fresh-2.ensures) refl
