use mathlib.Core.Path.{◌∙◌, ap}
use Rattle.decode.specs.Decoding.{sources_unmasked}
use Rattle.decode.proofs.Lengths.{of_16_bits, of_32_bits}
use Rattle.decode.proofs.decode.Goals as goal

pub returns-then-word-ne3 : goal.returns-then-word-ne3
returns-then-word-ne3 c = c.compressed_move.ensures ∙ of_16_bits _ _ _ _ c.if-word-ne3.true

pub returns : goal.returns
returns c = c.uncompressed_word.ensures ∙ ap sources_unmasked (of_32_bits _ _ _ _ c.if-word-ne3.false)
