-- A turn of the loop pastes one element more, and behind the last all are pasted. Assumes nothing.
use Rattle.std.proofs.Common.{arith, ap, ◌∙◌, ◌+◌, slice_set}
use Rattle.std.proofs.lemmas.List.Edits.{paste_more}
use lib.Seq.{paste}
use Rattle.scan.proofs.parts.copy.Goals as goal

pub loop-i-preserved : goal.loop-i-preserved
loop-i-preserved g c =
    let a = c.args in
    let i = c.loop-i.i in
    let v = c.index-src-i.result in
    ap (λ l. slice_set l (a.at + i) v) c.loop-i.invariant
    ∙ ap (λ x. slice_set (paste a.out.now a.at a.src.now i) (a.at + i) x) c.index-src-i.is
    ∙ paste_more a.out.now a.at a.src.now i v (omega arith) (omega arith)
