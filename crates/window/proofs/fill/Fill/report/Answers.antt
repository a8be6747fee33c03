-- `report` refuses what was not asked for, and takes the rest as the definition says. Assumes nothing.
use Rattle.std.proofs.Common.{arith}
use Rattle.std.proofs.lemmas.Bool.Decides.{nat_tests}
use Rattle.window.specs.Fill.{unasked, reported}
use Rattle.window.proofs.fill.Fill.report.Goals as goal

pub returns-then-not-self : goal.returns-then-not-self
unfolding unasked reported
returns-then-not-self c = grind (arith, nat_tests)

pub returns : goal.returns
unfolding unasked reported
returns c = grind (arith, nat_tests)
