use Rattle.std.proofs.Common.{◌≡◌, ◌+◌, ◌-◌, ◌*◌, arith}
use Rattle.memory.proofs.Number.{none_read, read_more, room}
use Rattle.memory.proofs.read.read.Goals as goal

pub loop-i-init : goal.loop-i-init
loop-i-init c = none_read _ _ _

pub overflow_mul-value : goal.overflow_mul-value
overflow_mul-value c = omega (arith, room (omega arith) c.loop-i.invariant)

pub overflow_add-value : goal.overflow_add-value
overflow_add-value c =
    let byte = c.type_inv.bytes (c.args.at + (c.loop-i.i - 1)) in
    omega (arith, room (omega arith) c.loop-i.invariant)

pub loop-i-preserved : goal.loop-i-preserved
loop-i-preserved c =
    let left = c.loop-i.i in
    let place : c.args.at + left ≡ c.args.at + (left - 1) + 1 = omega arith in
    let more : c.args.count - (left - 1) ≡ c.args.count - left + 1 = omega arith in
    let byte = c.type_inv.bytes (c.args.at + (left - 1)) in
    let e : 256 * c.loop-i.value + c.from.result ≡ c.from.result + 256 * c.loop-i.value = omega arith in
    rw (more, e, c.from.ensures) (read_more (rw place at c.loop-i.invariant) (omega arith))
