-- `grow_to` is `grow_by` at each policy's numbers; a policy without a limit has the window's length as its limit. Assumes nothing.
use Rattle.std.proofs.Common.{arith}
use Rattle.std.proofs.lemmas.Bool.Decides.{nat_tests}
use Rattle.growth.specs.Growth.{named, taken, grown}
use Rattle.growth.proofs.Policy.grow_to.Goals as goal

pub returns-in-StdPolicy : goal.returns-in-StdPolicy
unfolding grown named taken
returns-in-StdPolicy c = grind (arith, nat_tests)

pub returns-in-DoubleUntil : goal.returns-in-DoubleUntil
unfolding grown named taken
returns-in-DoubleUntil c = grind (arith, nat_tests)

pub returns-in-DoubleUntilLimited : goal.returns-in-DoubleUntilLimited
unfolding grown named taken
returns-in-DoubleUntilLimited c = grind (arith, nat_tests)
