-- `grow` answers what the policy does. Assumes nothing.
use Rattle.std.proofs.Common.{arith}
use Rattle.std.proofs.lemmas.Bool.Decides.{nat_tests}
use Rattle.window.specs.Fill.{widened_to}
use Rattle.window.proofs.fill.Fill.grow.Goals as goal

pub returns-in_err-capacity : goal.returns-in_err-capacity
unfolding widened_to
returns-in_err-capacity c = grind (arith, nat_tests)

pub returns : goal.returns
unfolding widened_to
returns c = grind (arith, nat_tests)
