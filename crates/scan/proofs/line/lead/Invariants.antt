-- The loop of `lead`.
use Rattle.std.proofs.Common.{◌≡◌, ◌+◌, ◌-◌, ◌≤◌, length}
use Rattle.std.specs.Prelude.{drop}
use Rattle.scan.specs.Search.{lead_at}
use Rattle.scan.proofs.line.lead.Given as goal

abbrev pub invariant-loop-at : goal.invariant-loop-at
invariant-loop-at l =
    record {
      apart : l.from + l.lines ≤ l.at;
      same : lead_at (drop l.from l.bytes) l.from 0 ≡ lead_at (drop l.at l.bytes) l.at l.lines;
    }

abbrev pub decreases-loop-at : goal.decreases-loop-at
decreases-loop-at l = length l.bytes - l.at
