-- What `write_to` answers is told as numbers; `tell` does not touch the output. Assumes nothing.
use Rattle.std.proofs.Common.{ap, ◌∙◌}
use Rattle.edge.specs.Edge.{told}
use Rattle.edge.proofs.Told.{told-write}
use Rattle.edge.proofs.writers.larizemba_write_to.Goals as goal

pub returns : goal.returns
returns c = c.tell.ensures _ ∙ told-write c.write_to.result _ ∙ ap told c.write_to.ensures
