use Rattle.std.proofs.Common.{sym, ◌∙◌, arith}
use Rattle.bits.proofs.Booleans.{fails, holds}
use Rattle.memory.proofs.Transfer.{stored_outside}
use Rattle.walk_operands.proofs.Fits.{fits_at}
use Rattle.walk_operations.specs.Context.{context}
use Rattle.walk_transfers.specs.Transfer.{after_transfer}
use Rattle.walk_accesses.proofs.Elements.{where_misaligned, where_aligned-aligned, store_value-at}
use Rattle.walk_accesses.proofs.storing.StorePlan.store_at.Goals as goal

pub address_at-address-requires : goal.address_at-address-requires
address_at-address-requires c =
    let ready = c.requires.0 in (fits_at _ _ _ c.requires.2 ready.destination, omega (arith, c.requires.2, ready.most))

pub after-requires : goal.after-requires
after-requires c = (c.requires.1, c.requires.2, c.requires.0.most)

pub returns-then-not-aligned : goal.returns-then-not-aligned
unfolding after_transfer
returns-then-not-aligned c =
    let misaligned = fails c.aligned.ensures c.if-not-aligned.true in
    let start = context c.args.registers.now c.args.memory.now c.args.position in
    let at = store_value-at c.args.self start c.args.j c.args.value _ c.address_at-address.ensures in
    rw (c.faulted.ensures, at ∙ where_misaligned _ _ _ misaligned)

pub returns-in-Ok : goal.returns-in-Ok
unfolding after_transfer
returns-in-Ok c =
    let aligned = holds c.aligned.ensures c.if-not-aligned.false in
    let done = sym c.put.ensures.answer ∙ c.in-Ok.is in
    let start = context c.args.registers.now c.args.memory.now c.args.position in
    let at = store_value-at c.args.self start c.args.j c.args.value _ c.address_at-address.ensures in
    rw (c.after.ensures, c.put.ensures.bytes, at ∙ where_aligned-aligned _ _ _ aligned, done)

pub returns-in-Err : goal.returns-in-Err
unfolding after_transfer
returns-in-Err c =
    let aligned = holds c.aligned.ensures c.if-not-aligned.false in
    let outside = sym c.put.ensures.answer ∙ c.in-Err.is in
    let start = context c.args.registers.now c.args.memory.now c.args.position in
    let at = store_value-at c.args.self start c.args.j c.args.value _ c.address_at-address.ensures in
    rw (
      c.faulted-in-Err.ensures,
      c.put.ensures.bytes,
      stored_outside _ _ _ _ outside,
      at ∙ where_aligned-aligned _ _ _ aligned,
      outside,
    )
