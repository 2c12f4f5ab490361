use Rattle.std.proofs.Common.{arith}
use Rattle.test_reading_lines.specs.Calls.{settings}
use Rattle.test_reading_lines.proofs.NameLaws.{unnamed}
use Rattle.test_reading_lines.proofs.call.Setting.of.Goals as goal

pub returns-in_default-37 : goal.returns-in_default-37
returns-in_default-37 c = unnamed settings c.args.name.now (grind arith)
