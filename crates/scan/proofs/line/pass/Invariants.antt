-- The loop of `pass`: the end from the present place is the end asked for.
use Rattle.std.proofs.Common.{◌≡◌, ◌-◌}
use Rattle.scan.specs.Scan.{line_end}
use Rattle.scan.proofs.line.pass.Given as goal

abbrev pub invariant-loop-i : goal.invariant-loop-i
invariant-loop-i g l = line_end l.bytes l.from ≡ line_end l.bytes l.i

abbrev pub decreases-loop-i : goal.decreases-loop-i
decreases-loop-i g l = l.stop - l.i
