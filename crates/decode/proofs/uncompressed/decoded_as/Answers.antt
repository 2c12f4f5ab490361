use mathlib.Core.Path.{refl, ◌∙◌, ap}
use Rattle.encoding.specs.Fields.{immediate, shift_amount, word_shift_amount}
use Rattle.decode.specs.declared.decoded.SecondOperand.TheVariants.{Register, Immediate}
use Rattle.decode.specs.Resolving.{unmasked, resolved}
use Rattle.decode.specs.Decoding.{decoded_as}
use Rattle.decode.proofs.Words.{store_is}
use Rattle.decode.proofs.Operands.{without_mask}
use Rattle.decode.proofs.Found.{Found, found, as_form, operation_made, load_made}
use Rattle.decode.proofs.uncompressed.decoded_as.Goals.{After-resolved_by-two}
use Rattle.decode.proofs.uncompressed.decoded_as.Goals as goal

-- the operands as they were found
searched :
    (c : After-resolved_by-two) →
    Found (resolved c.args.cfg c.args.register_table.now c.args.predicate_table.now) c.args.word c.args.form
    c.resolved_by-one.result c.resolved_by-two.result
searched c =
    found c.used_range.ensures c.rs1-rs1.ensures c.address_predicate-address_mask.ensures
    c.first_key-key.ensures c.predicate_by-mask.ensures c.resolved_by-one.ensures c.resolved_by-two.ensures

pub returns-in-Register : goal.returns-in-Register
unfolding decoded_as
returns-in-Register c =
    let operands = searched c.before.before.before.before.before in
    let operand = resolved c.args.cfg c.args.register_table.now c.args.predicate_table.now in
    let plain = without_mask c.used_range.ensures _ c.resolved_by-rs2.ensures refl in
    operation_made operands _ c.in-Register.is _ (Register _) refl refl refl
    (ap Register (plain ∙ ap (λ k. unmasked (operand k)) c.rs2.ensures)) c.operation.ensures

pub returns-in-Immediate : goal.returns-in-Immediate
unfolding decoded_as
returns-in-Immediate c =
    let operands = searched c.before.before.before in
    operation_made operands _ c.in-Immediate.is _ (Immediate (immediate c.args.word)) refl refl refl
    (ap Immediate c.immediate.ensures) c.immediate-in-Immediate.ensures

pub returns-in-Shift : goal.returns-in-Shift
unfolding decoded_as
returns-in-Shift c =
    let operands = searched c.before.before.before in
    operation_made operands _ c.in-Shift.is _ (Immediate (shift_amount c.args.word)) refl refl refl
    (ap Immediate c.shift_amount.ensures) c.immediate-in-Shift.ensures

pub returns-in-WordShift : goal.returns-in-WordShift
unfolding decoded_as
returns-in-WordShift c =
    let operands = searched c.before.before.before in
    operation_made operands _ c.in-WordShift.is _ (Immediate (word_shift_amount c.args.word)) refl refl refl
    (ap Immediate c.word_shift_amount.ensures) c.immediate-in-WordShift.ensures

pub returns-in-Load : goal.returns-in-Load
unfolding decoded_as
returns-in-Load c =
    let operands = searched c.before.before in
    load_made operands _ c.in-Load.is _ _ refl refl refl c.load.ensures

pub returns-in-LoadUnsigned : goal.returns-in-LoadUnsigned
unfolding decoded_as
returns-in-LoadUnsigned c =
    let operands = searched c.before.before in
    load_made operands _ c.in-LoadUnsigned.is _ _ refl refl refl c.load-in-LoadUnsigned.ensures

pub returns-in-Store : goal.returns-in-Store
unfolding decoded_as
returns-in-Store c =
    let operands = searched c.before.before in
    let operand = resolved c.args.cfg c.args.register_table.now c.args.predicate_table.now in
    let e = c.in-Store.is in
    as_form operands _ e
    (store_is operand _ _ (operands.first _ e) (operands.address _ e refl) c.store_immediate.ensures)

pub returns-in-Unknown : goal.returns-in-Unknown
unfolding decoded_as
returns-in-Unknown c =
    let operands = searched c.before in
    as_form operands _ c.in-Unknown.is refl
