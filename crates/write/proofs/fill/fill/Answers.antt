-- `fill` has no lines behind its parts. Assumes nothing.
use Rattle.std.proofs.Common.{ℕ, ◌++◌, List, ap, ◌∙◌, arith}
use mathlib.Core.List.{append-nil}
use Rattle.write.specs.Put.{text_of}
use Rattle.write.specs.Output.{filled}
use Rattle.write.proofs.Wrap.{wrap-none}
use Rattle.write.proofs.Filling.{wrap-fill}
use Rattle.write.proofs.fill.fill.Goals as goal

pub returns : goal.returns
returns c =
    let a = c.args in
    let parts = text_of a.parts.now in
    c.fill_lines.ensures
    ∙ wrap-fill 1 _ a.out.now (omega arith)
    ∙ ap (λ (l : List ℕ). filled (parts ++ l) a.out.now) (wrap-none 1)
    ∙ ap (λ (text : List ℕ). filled text a.out.now) (append-nil parts)
