-- `grow_by` adds the smaller of the two, which is what `doubled` adds, and takes the sum within all bounds. Assumes nothing.
use Rattle.std.proofs.Common.{arith}
use Rattle.std.proofs.lemmas.Bool.Decides.{nat_tests}
use Rattle.growth.specs.Growth.{doubled, named, taken, grown}
use Rattle.growth.proofs.grow_by.Goals as goal

pub returns-then-next-window : goal.returns-then-next-window
unfolding grown named taken doubled
returns-then-next-window c = grind (arith, nat_tests)

pub returns-in_err-next : goal.returns-in_err-next
unfolding grown named taken doubled
returns-in_err-next c = grind (arith, nat_tests)

pub returns-else-size-next : goal.returns-else-size-next
unfolding grown named taken doubled
returns-else-size-next c = grind (arith, nat_tests)
