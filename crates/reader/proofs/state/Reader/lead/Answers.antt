-- What `scan::lead` answers lies in the filled bytes (`lead-in`). Assumes nothing.
use Rattle.reader.proofs.ReadLaws.{lead-in}
use Rattle.reader.proofs.state.Reader.lead.Goals as goal

pub lead_to-requires : goal.lead_to-requires
lead_to-requires c = (c.requires, lead-in _ _ _ c.requires _ c.lead-blank.ensures)
