use Rattle.std.proofs.Common.{◌≡◌, ◌+◌, ◌-◌, ◌∙◌, arith}
use Rattle.memory.specs.LittleEndian.{written}
use Rattle.memory.proofs.Written.{write_more}
use Rattle.memory.proofs.write.write.Goals as goal

pub loop-i-preserved : goal.loop-i-preserved
loop-i-preserved c =
    let place : c.args.at + (c.loop-i.i + 1) ≡ c.args.at + c.loop-i.i + 1 = omega arith in
    let left : c.args.count - c.loop-i.i ≡ c.args.count - (c.loop-i.i + 1) + 1 = omega arith in
    rw place (write_more _ _ _ _ ∙ (rw left at c.loop-i.invariant))

pub returns : goal.returns
unfolding written
returns c =
    let left : c.args.count - c.loop-i.i ≡ 0 = omega arith in
    rw left at c.loop-i.invariant
