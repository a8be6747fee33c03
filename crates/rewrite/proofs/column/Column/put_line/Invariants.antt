-- The loop of `put_line`: what is left of the line is still due.
use Rattle.std.proofs.Common.{length}
use Rattle.rewrite.proofs.Columns.{Due}
use Rattle.rewrite.proofs.column.Column.put_line.Given as goal

abbrev pub invariant-loop-rest : goal.invariant-loop-rest
invariant-loop-rest l = Due l.line l.initial.self l.rest l.self

abbrev pub decreases-loop-rest : goal.decreases-loop-rest
decreases-loop-rest l = length l.rest
