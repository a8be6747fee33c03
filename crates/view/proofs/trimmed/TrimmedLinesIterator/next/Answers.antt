-- `next` gives the line up to the first end that is left, and leaves those behind it. Assumes nothing.
use Rattle.std.proofs.Common.{ap, arith, length}
use Rattle.view.proofs.TrimmedLemmas.{first-left, none-left}
use Rattle.view.proofs.trimmed.TrimmedLinesIterator.next.Goals as goal

pub returns-in_err-end-clause-steps : goal.returns-in_err-end-clause-steps
returns-in_err-end-clause-steps c =
    let l = c.args.self.now in
    let none = none-left l.bytes.now _ l.ends.now c.in_err-end.ensures.cases in
    rw c.from_residual.ensures (none, none)

pub returns-clause-steps : goal.returns-clause-steps
returns-clause-steps c =
    let l = c.args.self.now in
    first-left l.bytes.now l.place _ l.ends.now _ _ c.in_ok-end.ensures.cases.0 c.trim_cr-line.ensures

pub returns-clause-goes : goal.returns-clause-goes
returns-clause-goes c =
    let l = c.args.self.now in
    let first = first-left l.bytes.now l.place _ l.ends.now _ _ c.in_ok-end.ensures.cases.0 c.trim_cr-line.ensures in
    record { on = λ _. (tt, tt, omega (arith, ap length first)); keeps = tt; rests = λ finite. tt }
