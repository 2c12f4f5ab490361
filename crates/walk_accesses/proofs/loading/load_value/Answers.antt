use Rattle.std.proofs.Common.{sym, ◌∙◌}
use Rattle.walk_accesses.proofs.Doubles.{same_double}
use Rattle.walk_accesses.proofs.loading.load_value.Goals as goal

-- a double is read as unsigned, whatever is asked
pub returns-in-Double : goal.returns-in-Double
returns-in-Double c =
    let k = c in
    rw c.in-Double.is
    (c.load_value_as-in-Double.ensures ∙ sym (same_double _ _ (λ i. (k.shared_slice_known-1.given i).fits) k.args.signed))
