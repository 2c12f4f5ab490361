use Rattle.std.proofs.Common.{arith}
use Rattle.test_reading_lines.specs.Calls.{fields}
use Rattle.test_reading_lines.proofs.NameLaws.{unnamed}
use Rattle.test_reading_lines.proofs.call.Field.of.Goals as goal

pub returns-in_default-51 : goal.returns-in_default-51
returns-in_default-51 c = unnamed fields c.args.name.now (grind arith)

pub returns-in_default-69 : goal.returns-in_default-69
returns-in_default-69 c = unnamed fields c.args.name.now (grind arith)
