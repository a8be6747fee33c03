-- The loop of `are_rising`: whether the ends rise from the start is whether those left rise from the last one passed.
use Rattle.std.proofs.Common.{◌≡◌, drop}
use Rattle.reader.specs.State.{rising}
use Rattle.reader.proofs.read.are_rising.Given as goal

abbrev pub invariant-loop-end : goal.invariant-loop-end
invariant-loop-end l = rising l.lo l.ends l.hi ≡ rising l.last (drop l.end-index l.ends) l.hi
