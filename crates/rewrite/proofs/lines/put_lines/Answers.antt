-- The lines are put, and a `\n` unless the last line is full. Assumes nothing.
use Rattle.std.proofs.Common.{inl, inr, ap, sym, length, List, ℕ}
use Rattle.meaning.specs.Parts.{joined}
use Rattle.view.specs.Trimmed.{lines_left}
use Rattle.view.specs.declared.trimmed.TrimmedLines.{TrimmedLines}
use Rattle.rewrite.proofs.Columns.{due_all, due-as, due-front, due-next, due-none, iter-room, iter-end-room, iter-ended, iter-whole}
use Rattle.rewrite.proofs.lines.put_lines.Goals as goal
use Rattle.rewrite.proofs.lines.put_lines.Goals.{then-column-ne0-via-then-column-ne0, then-column-ne0-via-else-column-ne0+then-column-from}

pub loop-line-init : goal.loop-line-init
loop-line-init c =
    due-as (ap (λ (l : TrimmedLines). joined (lines_left l)) (sym c.into_iter-line-iterator.ensures.into_iter_gives))
    (due_all (iter-room (lines_left c.args.lines) c.requires.wide c.requires.fresh c.requires.room))

pub put_line-requires : goal.put_line-requires
put_line-requires c = due-front _ _ (due-as (ap joined c.in-Some.ensures.steps) c.loop-line.invariant)

pub loop-line-preserved : goal.loop-line-preserved
loop-line-preserved c = due-next _ _ (due-as (ap joined c.in-Some.ensures.steps) c.loop-line.invariant) c.put_line.ensures

pub end_line-requires : goal.end_line-requires
end_line-requires c =
    let r = c.requires in
    let p = due-none c.loop-line.invariant (ap (λ (ls : List (List ℕ)). length (joined ls)) c.in-None.ensures.steps.0) in
    iter-end-room (lines_left c.args.lines) r.wide r.fresh p r.room
    (elim c.then-column-ne0.branch [
      | then-column-ne0-via-then-column-ne0 w ↦ inl w.if-column-ne0.true
      | then-column-ne0-via-else-column-ne0+then-column-from w ↦ inr w.if-column-from.true
    ])

pub returns-then-column-ne0 : goal.returns-then-column-ne0
returns-then-column-ne0 c =
    let r = c.requires in
    let p = due-none c.loop-line.invariant (ap (λ (ls : List (List ℕ)). length (joined ls)) c.in-None.ensures.steps.0) in
    iter-ended (lines_left c.args.lines) r.wide r.fresh p r.room
    (elim c.then-column-ne0.branch [
      | then-column-ne0-via-then-column-ne0 w ↦ inl w.if-column-ne0.true
      | then-column-ne0-via-else-column-ne0+then-column-from w ↦ inr w.if-column-from.true
    ])
    c.end_line.ensures

pub returns-else-column-from : goal.returns-else-column-from
returns-else-column-from c =
    let r = c.requires in
    let p = due-none c.loop-line.invariant (ap (λ (ls : List (List ℕ)). length (joined ls)) c.in-None.ensures.steps.0) in
    iter-whole (lines_left c.args.lines) r.wide r.fresh p c.if-column-ne0.false c.if-column-from.false
