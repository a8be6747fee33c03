-- `search` goes from line end to line end. The loop's invariant: the search from the present place is the search asked for. Assumes nothing.
use native.Mathlib.Omega.{arith}
use mathlib.Core.Logic.{inl, inr}
use mathlib.Core.Path.{sym, ◌∙◌}
use Rattle.scan.proofs.LineLaws.{line-end-within, line-end-from}
use Rattle.scan.proofs.SearchLaws.{search-past, turn-filled, turn-full, turn-record, turn-line}
use Rattle.scan.proofs.ends.search.Goals.{then-limit-count-via-else-limit-count+then-ends-count, then-limit-count-via-then-limit-count}
use Rattle.scan.proofs.ends.search.Goals as goal

pub overflow_add-next : goal.overflow_add-next
overflow_add-next c = omega (arith, c.line_end-end.ensures, line-end-within c.args.bytes.now c.loop-at.at)

pub returns-then-bytes-next : goal.returns-then-bytes-next
returns-then-bytes-next c =
    let a = c.args in
    let at = c.loop-at in
    let called = c.line_end-end in
    sym (at.invariant
    ∙ turn-filled a.mark a.limit a.bytes.now at.at at.count at.ends called.result c.loop-at-test.true called.ensures c.if-bytes-next.true)

pub returns-then-limit-count : goal.returns-then-limit-count
returns-then-limit-count c =
    let a = c.args in
    let at = c.loop-at in
    let called = c.line_end-end in
    sym (at.invariant
    ∙ turn-full a.mark a.limit a.bytes.now at.at at.count at.ends called.result c.loop-at-test.true called.ensures c.if-bytes-next.false
    (elim c.then-limit-count.branch [
      | then-limit-count-via-then-limit-count w ↦ inl (omega arith)
      | then-limit-count-via-else-limit-count+then-ends-count w ↦ inr (omega arith)
    ]))

pub returns-then-bytes-at : goal.returns-then-bytes-at
returns-then-bytes-at c =
    let a = c.args in
    let at = c.loop-at in
    let called = c.line_end-end in
    sym (at.invariant
    ∙ turn-record a.mark a.limit a.bytes.now at.at at.count at.ends called.result c.loop-at-test.true called.ensures
    c.if-bytes-next.false (omega arith) (omega arith) c.if-bytes-at.true)

pub loop-at-smaller : goal.loop-at-smaller
loop-at-smaller c = omega (arith, c.line_end-end.ensures, line-end-from c.args.bytes.now c.loop-at.at (omega arith))

pub loop-at-preserved : goal.loop-at-preserved
loop-at-preserved c =
    let a = c.args in
    let at = c.loop-at in
    let called = c.line_end-end in
    at.invariant
    ∙ turn-line a.mark a.limit a.bytes.now at.at at.count at.ends called.result c.loop-at-test.true called.ensures
    c.if-bytes-next.false (omega arith) (omega arith) c.if-bytes-at.false

pub returns : goal.returns
returns c =
    let a = c.args in
    let at = c.loop-at in
    sym (at.invariant ∙ search-past a.mark a.limit a.bytes.now at.at at.count at.ends c.loop-at-test.false)
