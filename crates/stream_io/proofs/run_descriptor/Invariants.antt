use Rattle.stream_io.specs.Output.{SessionReached}
use Rattle.stream_io.proofs.run_descriptor.Given as goal

abbrev pub invariant-loop : goal.invariant-loop
invariant-loop g l = SessionReached l.session
