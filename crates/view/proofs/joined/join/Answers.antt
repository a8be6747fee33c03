-- `join` pastes line by line. Assumes nothing.
use Rattle.std.proofs.Common.{ℕ, List, arith, ap, length, sym, ◌∙◌}
use Rattle.meaning.specs.Parts.{joined}
use Rattle.scan.specs.Move.{pasted}
use Rattle.view.specs.Trimmed.{lines_left}
use Rattle.view.proofs.Joins.{paste-line}
use Rattle.view.proofs.joined.join.Goals as goal

pub loop-line-preserved : goal.loop-line-preserved
loop-line-preserved c =
    let next = c.in-Some.ensures.steps in
    let line =
    paste-line c.loop-line.at _ (joined (lines_left c.next.new.self)) c.loop-line.scratch _
    (omega (arith, c.loop-line.invariant.0, ap (λ (ls : List (List ℕ)). length (joined ls)) next)) c.copy.ensures in
    (line.0, line.1 ∙ ap (λ (ls : List (List ℕ)). pasted c.loop-line.at (joined ls) c.loop-line.scratch) (sym next) ∙ c.loop-line.invariant.1)
