-- The text of the end is its bytes. Assumes nothing.
use Rattle.std.proofs.Common.{ap, sym, ◌∙◌, ℕ, List}
use Rattle.reader.specs.Read.{said_by}
use Rattle.reader.specs.declared.state.Answer.{Answer}
use Rattle.rows.specs.Rows.{filled_at, last_text}
use Rattle.rows.proofs.Telling.{end_is}
use Rattle.rows.proofs.line.put_last.Goals as goal

pub returns-in-End : goal.returns-in-End
returns-in-End c =
    let a = c.args in
    c.put_text-in-End.ensures
    ∙ ap (λ (l : List ℕ). filled_at a.at l a.out.now) (sym end_is)
    ∙ sym (ap (λ (x : Answer). filled_at a.at (last_text (said_by x)) a.out.now) c.in-End.is)
