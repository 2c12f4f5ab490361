use Rattle.std.proofs.Common.{arith, rules, sym, ◌∙◌}
use Rattle.stream_records.proofs.Next.{whole_within}
use Rattle.stream_records.proofs.Readers.{taking_none, part_length}
use Rattle.stream_records.proofs.Readers.{taking_whole, taking_cut, taking_unknown, taking_end}
use Rattle.stream_records.proofs.reader.Reader.take.Goals as goal

pub returns-then-self : goal.returns-then-self
returns-then-self c = taking_none _ _ c.requires (search rules) c.if-self.true

pub overflow_add-self : goal.overflow_add-self
overflow_add-self c =
    let within = whole_within _ _ 0 _ (sym c.next_record.ensures ∙ c.in-Ok.is) in
    omega (arith, within.end, part_length c.args.self.now c.args.byte c.requires (search rules), c.requires.room)

pub returns-in-Ok : goal.returns-in-Ok
returns-in-Ok c =
    taking_whole _ _ c.requires (search rules) c.if-self.false _ _ (sym c.next_record.ensures ∙ c.in-Ok.is)

pub returns-in-Err-Cut : goal.returns-in-Err-Cut
returns-in-Err-Cut c =
    let e = rw c.in-Err-Cut.field-0-is at (sym c.in-Err-Cut.ensures) in
    taking_cut _ _ c.requires (search rules) c.if-self.false e

pub returns-in-Err-Unknown : goal.returns-in-Err-Unknown
returns-in-Err-Unknown c =
    let e = rw c.in-Err-Unknown.field-0-is at (sym c.in-Err-Unknown.ensures) in
    taking_unknown _ _ c.requires (search rules) c.if-self.false e

pub returns-in-Err-End : goal.returns-in-Err-End
returns-in-Err-End c =
    let e = rw c.in-Err-End.field-0-is at (sym c.in-Err-End.ensures) in
    taking_end _ _ c.requires (search rules) c.if-self.false e
