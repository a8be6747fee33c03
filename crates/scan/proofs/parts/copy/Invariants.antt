-- The loop of `copy`: the output with the first `i` elements of the part pasted. Assumes nothing.
use Rattle.std.proofs.Common.{◌≡◌}
use lib.Seq.{paste}
use Rattle.scan.proofs.parts.copy.Given as goal

abbrev pub invariant-loop-i : goal.invariant-loop-i
invariant-loop-i g l = l.out ≡ paste l.initial.out l.at l.src l.i
