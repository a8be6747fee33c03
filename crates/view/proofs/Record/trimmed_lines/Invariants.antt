-- The loop over the ends: the test of all is the test of those left, from the last one passed.
use mathlib.Core.Path.{◌≡◌}
use lib.ListN.{length, drop}
use Rattle.view.specs.Rising.{rising}
use Rattle.view.proofs.Record.trimmed_lines.Given as goal

abbrev pub invariant-loop-end : goal.invariant-loop-end
invariant-loop-end l =
    rising l.self.start l.self.ends.now (length l.self.bytes.now) ≡ rising l.lo (drop l.end-index l.self.ends.now) (length l.self.bytes.now)
