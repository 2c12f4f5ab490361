use Rattle.std.proofs.Common.{arith, sym, ◌∙◌}
use Rattle.stream_records.proofs.Readers.{found_past, found_step, found_later}
use Rattle.stream_records.proofs.reader.Reader.find.Goals as goal

pub returns-in-Some-clause-finding : goal.returns-in-Some-clause-finding
returns-in-Some-clause-finding c =
    let taking = c.in-Some.ensures in
    record {
      same = sym (found_step _ _ _ _ _ c.loop-i-test.true taking) ∙ c.loop-i.invariant.same;
      sized = taking.sized;
      short = taking.short;
      reached = omega (arith, taking.reached);
    }

pub loop-i-preserved : goal.loop-i-preserved
loop-i-preserved c =
    let taking = c.take.ensures in
    record {
      same = found_later _ _ _ _ _ c.loop-i-test.true taking c.in_default.is ∙ c.loop-i.invariant.same;
      sized = taking.sized;
      short = taking.short;
      reached = omega (arith, taking.reached);
    }

pub returns-clause-finding : goal.returns-clause-finding
returns-clause-finding c = record {
  same = found_past c.loop-i.self _ _ c.loop-i-test.false (omega arith) ∙ c.loop-i.invariant.same;
  sized = c.loop-i.invariant.sized;
  short = c.loop-i.invariant.short;
  reached = omega (arith, c.loop-i.invariant.reached);
}
