-- `is_sound` makes the tests of `sound`. Assumes nothing.
use Rattle.std.proofs.Common.{arith}
use Rattle.std.proofs.lemmas.Bool.Decides.{nat_tests}
use Rattle.window.specs.Fill.{sound}
use Rattle.window.proofs.fill.Fill.is_sound.Goals as goal

pub returns-then-self-3 : goal.returns-then-self-3
unfolding sound
returns-then-self-3 c = grind (arith, nat_tests)

pub returns-else-self-3 : goal.returns-else-self-3
unfolding sound
returns-else-self-3 c = grind (arith, nat_tests)
