-- `write_unchanged_in` tests the last end and leaves the rest to `write_copy`. Assumes nothing.
use Rattle.std.proofs.Common.{Bor, List, ℕ, arith, sym, ap, ◌∙◌}
use borrow.Author.Tests.{ltb-false}
use Rattle.write.specs.Output.{filled}
use Rattle.write.specs.Text.{seq_text}
use Rattle.rewrite.proofs.Cases.{unchanged-empty, unchanged-falls, unchanged-some, stripped, as-write}
use Rattle.rewrite.proofs.unchanged.write_unchanged_in.Goals as goal

pub returns-in_default : goal.returns-in_default
returns-in_default c =
    let g = c.args.given in
    sym (unchanged-empty g.bytes.now g.start g.ends.now c.args.out.now (omega (arith, ltb-false, c.in_default.ensures.item)))

pub returns-then-last-start : goal.returns-then-last-start
returns-then-last-start c =
    let g = c.args.given in
    let last = c.in-Some.ensures.item.3 in
    sym (unchanged-falls g.bytes.now g.start g.ends.now c.args.out.now last.0 (last.1 0) (λ h k. omega (arith, c.then-last-start.either)))

pub returns-in_err-write_seq : goal.returns-in_err-write_seq
returns-in_err-write_seq c =
    let g = c.args.given in
    let last = c.in-Some.ensures.item.3 in
    as-write c.from_residual.result _ c.write_seq.new.out c.from_residual.ensures
    ∙ c.in_err-write_seq.ensures
    ∙ ap (λ (t : List ℕ). filled t c.args.out.now) (ap (λ (b : Bor (List ℕ)). seq_text b.now) c.unwrap_or-text.ensures ∙ stripped _ _ c.strip_suffix.ensures.cases)
    ∙ sym (unchanged-some g.bytes.now g.start g.ends.now c.args.out.now last.0 (last.1 0) c.if-last-start.false c.if-bytes-last.false)

pub returns : goal.returns
returns c =
    let g = c.args.given in
    let last = c.in-Some.ensures.item.3 in
    c.in_ok-write_seq.ensures
    ∙ ap (λ (t : List ℕ). filled t c.args.out.now) (ap (λ (b : Bor (List ℕ)). seq_text b.now) c.unwrap_or-text.ensures ∙ stripped _ _ c.strip_suffix.ensures.cases)
    ∙ sym (unchanged-some g.bytes.now g.start g.ends.now c.args.out.now last.0 (last.1 0) c.if-last-start.false c.if-bytes-last.false)
