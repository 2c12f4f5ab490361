use mathlib.Core.Path.{sym, ◌∙◌}
use Rattle.decode.specs.Decoding.{decoded_as}
use Rattle.decode.proofs.uncompressed.uncompressed_word.Goals as goal

pub returns-in-Unknown : goal.returns-in-Unknown
unfolding decoded_as
returns-in-Unknown c = rw (sym c.form_of-form.ensures ∙ c.in-Unknown.is)
