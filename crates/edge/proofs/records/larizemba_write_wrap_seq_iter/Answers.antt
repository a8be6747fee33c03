-- What `write_wrap_seq_iter` answers is told as numbers; `tell` does not touch the output. Assumes nothing.
use Rattle.std.proofs.Common.{ap, ◌∙◌}
use Rattle.edge.specs.Edge.{told}
use Rattle.edge.proofs.Told.{told-rewrite}
use Rattle.edge.proofs.records.larizemba_write_wrap_seq_iter.Goals as goal

pub returns : goal.returns
returns c = c.tell.ensures _ ∙ told-rewrite c.write_wrap_seq_iter.result _ ∙ ap told c.write_wrap_seq_iter.ensures
