use mathlib.Core.Path.{◌≡◌}
use lib.ListN.{drop}
use Rattle.test_vector_lines.specs.Number.{number_in, digits_after}
use Rattle.test_vector_lines.proofs.number.number_in.Given as goal

abbrev pub invariant-loop-byte : goal.invariant-loop-byte
invariant-loop-byte l = number_in l.base l.digits ≡ digits_after l.base l.number (drop l.byte-index l.digits)
