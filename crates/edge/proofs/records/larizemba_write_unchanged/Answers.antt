-- What `write_unchanged_in` answers is told as numbers; `tell` does not touch the output. Assumes nothing.
use Rattle.std.proofs.Common.{ap, ◌∙◌}
use Rattle.edge.specs.Edge.{told}
use Rattle.edge.proofs.Told.{told-rewrite}
use Rattle.edge.proofs.records.larizemba_write_unchanged.Goals as goal

pub returns : goal.returns
returns c = c.tell.ensures _ ∙ told-rewrite c.write_unchanged_in.result _ ∙ ap told c.write_unchanged_in.ensures
