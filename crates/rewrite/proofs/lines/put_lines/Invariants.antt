-- The loop of `put_lines`: the lines left are still due.
use Rattle.meaning.specs.Parts.{joined}
use Rattle.view.specs.Trimmed.{lines_left}
use Rattle.rewrite.proofs.Columns.{Due}
use Rattle.rewrite.proofs.lines.put_lines.Given as goal

abbrev pub invariant-loop-line : goal.invariant-loop-line
invariant-loop-line l = Due (joined (lines_left l.fn.lines)) l.initial.column (joined (lines_left l.line-iterator)) l.column
