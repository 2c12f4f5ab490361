use Rattle.std.proofs.Common.{ap, ◌∙◌, w64, Fits, rules}
use Rattle.scalar.specs.Signed.{sign_extended}
use Rattle.scalar.specs.declared.width.Width.TheVariants.{Word}
use Rattle.division.specs.declared.Division.{Division}
use Rattle.division.proofs.Quotients.{both_parts}
use Rattle.division.proofs.Words.{same_quotient, same_remainder}
use Rattle.division.proofs.divide_words.Goals as goal

pub returns : goal.returns
returns c =
    let d = c in
    let v = d in
    let x = v.widened in
    let y = v.widened-2 in
    let s = v.args in
    let e = d.divide-result.ensures in
    let f : Fits w64 x.result = search rules in
    let g : Fits w64 y.result = search rules in
    both_parts _
    (c.sign_extend.ensures
    ∙ ap (λ (r : Division). sign_extended Word r.quotient) e
    ∙ same_quotient s.signedness s.a s.b x.result y.result f g x.ensures y.ensures)
    (c.sign_extend-2.ensures
    ∙ ap (λ (r : Division). sign_extended Word r.remainder) e
    ∙ same_remainder s.signedness s.a s.b x.result y.result f g x.ensures y.ensures)
