-- The lines of a record whose ends rise, or refusal 11. Assumes nothing.
use Rattle.std.proofs.Common.{◌≡◌, List, ℕ, sym, ◌∙◌}
use Rattle.write.specs.Output.{wrapped}
use Rattle.write.specs.Text.{wrap_seq_iter_text}
use Rattle.rewrite.specs.declared.error.RewriteError.TheVariants.{State}
use Rattle.rewrite.specs.Rewrite.{iterated_in}
use Rattle.rewrite.proofs.Cases.{as-state}
use Rattle.rewrite.proofs.Records.{lines-fall, lines-empty, lines-rise}
use Rattle.rewrite.proofs.lines.write_wrap_seq_iter.Goals as goal

pub returns-in_err-lines : goal.returns-in_err-lines
unfolding iterated_in
returns-in_err-lines c =
    let g = c.args.given in
    let falls = rw c.in_err-lines.ensures.ok_part at c.trimmed_lines.ensures in
    let is = rw c.in_err-lines.ensures.ok_part at c.in_err-lines.ensures.value in
    let state : c.in_err-lines.field-0.0 ≡ State = cc in
    as-state c.from_residual.result c.args.out.now state c.from_residual.ensures
    ∙ sym (lines-fall g.bytes.now g.start g.ends.now c.args.out.now (λ (head : List ℕ) (ls : List (List ℕ)). wrapped c.args.wrap (wrap_seq_iter_text c.args.wrap ls) c.args.out.now) falls)

pub returns-in_err-ok_or : goal.returns-in_err-ok_or
unfolding iterated_in
returns-in_err-ok_or c =
    let g = c.args.given in
    let given = rw c.in_ok-lines.ensures.ok_part at c.trimmed_lines.ensures in
    let no = rw c.in_err-ok_or.ensures.ok_part at c.next.ensures.steps in
    let is = rw c.in_err-ok_or.ensures.ok_part at c.in_err-ok_or.ensures.value in
    let state : c.in_err-ok_or.field-0.0 ≡ State = cc in
    as-state c.from_residual-in_err-ok_or.result c.args.out.now state c.from_residual-in_err-ok_or.ensures
    ∙ sym (lines-empty g.bytes.now g.start g.ends.now c.args.out.now (λ (head : List ℕ) (ls : List (List ℕ)). wrapped c.args.wrap (wrap_seq_iter_text c.args.wrap ls) c.args.out.now) (sym given.1 ∙ no.0))

pub returns : goal.returns
unfolding iterated_in
returns c =
    let g = c.args.given in
    let given = rw c.in_ok-lines.ensures.ok_part at c.trimmed_lines.ensures in
    let head = rw c.in_ok-ok_or.ensures.ok_part at c.next.ensures.steps in
    c.write_lines.ensures
    ∙ sym (lines-rise g.bytes.now g.start g.ends.now c.args.out.now (λ (head : List ℕ) (ls : List (List ℕ)). wrapped c.args.wrap (wrap_seq_iter_text c.args.wrap ls) c.args.out.now) given.0 (sym given.1 ∙ head))
