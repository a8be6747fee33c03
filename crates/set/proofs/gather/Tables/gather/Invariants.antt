-- The loop of `gather`: gathering from here comes to what gathering from the start does.
use Prim.Native.Nat.{◌-◌}
use mathlib.Core.Path.{◌≡◌}
use Rattle.set.specs.Read.{pairs, gathered_in, gather_all}
use Rattle.set.proofs.gather.Tables.gather.Given as goal

abbrev pub invariant-loop-reader : goal.invariant-loop-reader
invariant-loop-reader l =
    (gather_all l.window (gathered_in l.reader l.table l.self)
    ≡ gather_all l.window (gathered_in l.fn.first l.initial.table l.initial.self))
    × (l.self.marks.ghost_name ≡ l.initial.self.marks.ghost_name)
    × (l.self.ends.ghost_name ≡ l.initial.self.ends.ghost_name)

abbrev pub decreases-loop-reader : goal.decreases-loop-reader
decreases-loop-reader l = pairs l.self.marks.now - l.self.count
