use Rattle.std.proofs.Common.{◌+◌, ◌-◌, sym, ◌∙◌, arith}
use Rattle.walk_pairs.proofs.Halving.{even_halved, at_odd, at_end, next_half, on_odd}
use Rattle.walk_pairs.proofs.Side.next_on.Goals as goal

pub loop-rest-preserved : goal.loop-rest-preserved
loop-rest-preserved c =
    let h = c.if-k-vl.false in
    (omega (arith, h), even_halved _ _ _ h c.loop-rest-test.true ∙ c.loop-rest.invariant.1)

-- the loop starts from the mask, shifted
pub returns-after-loop-rest : goal.returns-after-loop-rest
returns-after-loop-rest c =
    let first = on_odd c.args.self.mask (c.args.vl - (c.args.i + 1)) (c.args.i + 1) in
    sym (at_odd _ _ _ c.loop-rest-test.false)
    ∙ c.loop-rest.invariant.1
    ∙ rw (next_half c.args.self.mask.on c.args.i) at (sym first)

pub returns-then-k-vl : goal.returns-then-k-vl
returns-then-k-vl c =
    let first = on_odd c.args.self.mask (c.args.vl - (c.args.i + 1)) (c.args.i + 1) in
    sym (at_end _ _ _ c.if-k-vl.true)
    ∙ c.loop-rest.invariant.1
    ∙ rw (next_half c.args.self.mask.on c.args.i) at (sym first)
