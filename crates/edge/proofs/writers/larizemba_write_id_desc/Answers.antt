-- What `write_id_desc` answers is told as numbers; `tell` does not touch the output. Assumes nothing.
use Rattle.std.proofs.Common.{ℕ, List, ap, ◌∙◌}
use Rattle.std.proofs.Math.Option.{Option}
use Rattle.write.specs.Output.{filled}
use Rattle.write.specs.Text.{id_desc_text}
use Rattle.edge.specs.Edge.{told}
use Rattle.edge.proofs.Told.{told-write, described-by}
use Rattle.edge.proofs.writers.larizemba_write_id_desc.Goals as goal

pub returns : goal.returns
returns c =
    let a = c.args in
    let desc = described-by a.with_desc a.desc c.then_some.result c.then_some.ensures in
    c.tell.ensures _
    ∙ told-write c.write_id_desc.result _
    ∙ ap told (c.write_id_desc.ensures ∙ ap (λ (d : Option (List ℕ)). filled (id_desc_text a.id.now d) a.out.now) desc)
