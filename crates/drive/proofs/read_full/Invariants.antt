-- What is read is a front of the memory, and what is left of the memory is the measure.
use Rattle.std.proofs.Common.{length, ◌-◌, ◌≤◌}
use Rattle.drive.proofs.read_full.Given as goal

abbrev pub invariant-loop-n : goal.invariant-loop-n
invariant-loop-n l = l.done ≤ length l.memory

abbrev pub decreases-loop-n : goal.decreases-loop-n
decreases-loop-n l = length l.memory - l.done
