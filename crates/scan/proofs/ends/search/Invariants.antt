-- The loop of `search`: the search from the present place is the search asked for.
use Rattle.std.proofs.Common.{◌≡◌, ◌-◌, length}
use Rattle.std.specs.Prelude.{drop}
use Rattle.scan.specs.Search.{searched}
use Rattle.scan.proofs.ends.search.Given as goal

abbrev pub invariant-loop-at : goal.invariant-loop-at
invariant-loop-at l =
    searched l.mark l.limit (drop l.from l.bytes) l.from l.fn.count l.fn.ends ≡ searched l.mark l.limit (drop l.at l.bytes) l.at l.count l.ends

abbrev pub decreases-loop-at : goal.decreases-loop-at
decreases-loop-at l = length l.bytes - l.at
