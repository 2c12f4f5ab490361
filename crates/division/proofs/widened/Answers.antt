use Rattle.std.proofs.Common.{ap, ◌∙◌, w64, to_z}
use Rattle.division.proofs.Words.{extended_number}
use Rattle.division.proofs.widened.Goals as goal

pub returns-in-Signed : goal.returns-in-Signed
returns-in-Signed c = let d = c in rw d.in-Signed.is (ap (to_z w64) c.sign_extend.ensures ∙ extended_number d.args.a)
