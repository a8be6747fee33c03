-- What `write_wrap_seq` answers is told as numbers; `tell` does not touch the output. Assumes nothing.
use Rattle.std.proofs.Common.{ap, ◌∙◌}
use Rattle.edge.specs.Edge.{told}
use Rattle.edge.proofs.Told.{told-write}
use Rattle.edge.proofs.writers.larizemba_write_wrap_seq.Goals as goal

pub returns : goal.returns
returns c = c.tell.ensures _ ∙ told-write c.write_wrap_seq.result _ ∙ ap told c.write_wrap_seq.ensures
