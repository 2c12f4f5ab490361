use borrow.Author.Tests.{eq-eqb, ne_eqb}
use native.Mathlib.Nat.{div-one}
use Rattle.decode.specs.Decoding.{compressed_move}
use Rattle.decode.proofs.Operands.{masked}
use Rattle.decode.proofs.compressed.compressed_move.Goals as goal

pub returns-then-word-ne2 : goal.returns-then-word-ne2
unfolding compressed_move
returns-then-word-ne2 c = rw (div-one, ne_eqb _ _ c.if-word-ne2.true)

pub returns-then-word-ne8 : goal.returns-then-word-ne8
unfolding compressed_move
returns-then-word-ne8 c = rw (div-one, eq-eqb _ _ c.if-word-ne2.false, ne_eqb _ _ c.if-word-ne8.true)

pub returns-then-rs2-eq0 : goal.returns-then-rs2-eq0
unfolding compressed_move
returns-then-rs2-eq0 c =
    let a = c in
    rw (
      div-one,
      eq-eqb _ _ a.if-word-ne2.false,
      eq-eqb _ _ a.if-word-ne8.false,
      ← a.compressed_rs2-rs2.ensures,
      eq-eqb _ _ c.if-rs2-eq0.true,
    )

pub returns : goal.returns
unfolding compressed_move
returns c =
    let r = c in
    let b = r in
    let a = b in
    let same = r.used_range.ensures in
    rw (
      masked same _ c.resolved_by-source.ensures c.predicate_by-source_mask.ensures,
      masked same _ c.resolved_by-destination.ensures c.predicate_by-mask.ensures,
      c.rd-rd.ensures,
      div-one,
      eq-eqb _ _ a.if-word-ne2.false,
      eq-eqb _ _ a.if-word-ne8.false,
      ← a.compressed_rs2-rs2.ensures,
      ne_eqb _ _ b.if-rs2-eq0.false,
    )
