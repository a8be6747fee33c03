-- What `write_wrap` answers is told as numbers; `tell` does not touch the output. Assumes nothing.
use Rattle.std.proofs.Common.{ℕ, List, ap, ◌∙◌}
use Rattle.std.proofs.Math.Option.{Option}
use Rattle.write.specs.Output.{wrapped}
use Rattle.write.specs.Text.{wrap_text}
use Rattle.edge.specs.Edge.{told}
use Rattle.edge.proofs.Told.{told-write, described-by}
use Rattle.edge.proofs.writers.larizemba_write_wrap.Goals as goal

pub returns : goal.returns
returns c =
    let a = c.args in
    let desc = described-by a.with_desc a.desc c.then_some.result c.then_some.ensures in
    c.tell.ensures _
    ∙ told-write c.write_wrap.result _
    ∙ ap told (c.write_wrap.ensures ∙ ap (λ (d : Option (List ℕ)). wrapped a.wrap (wrap_text a.id.now d a.seq.now a.wrap) a.out.now) desc)
