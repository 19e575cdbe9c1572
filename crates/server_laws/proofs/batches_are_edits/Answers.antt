use Rattle.server_laws.proofs.Batches.{batch_accepted_or, batch_leads, batch_made, edits_lawful, first_refused_told, no_edits, nothing_made, one_edit_is}
use Rattle.server_laws.proofs.batches_are_edits.Goals as goal

pub returns : goal.returns
returns c = record {
  refused = first_refused_told;
  either = batch_accepted_or;
  made = batch_made;
  differences = batch_leads;
  lawful = edits_lawful;
  none = no_edits;
  nothing = nothing_made;
  one = one_edit_is;
}
