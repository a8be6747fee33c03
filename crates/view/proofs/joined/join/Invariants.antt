-- The loop over the lines: pasting those left leaves what pasting all into the given scratch leaves.
use Rattle.std.proofs.Common.{◌≡◌, ◌+◌, ◌≤◌, length}
use Rattle.meaning.specs.Parts.{joined}
use Rattle.scan.specs.Move.{pasted}
use Rattle.view.specs.Trimmed.{lines_left}
use Rattle.view.proofs.joined.join.Given as goal

abbrev pub invariant-loop-line : goal.invariant-loop-line
invariant-loop-line l =
    let due = joined (lines_left l.line-iterator) in
    (l.at + length due ≤ length l.scratch)
    × (pasted l.at due l.scratch ≡ pasted 0 (joined (lines_left l.lines)) l.initial.scratch)
