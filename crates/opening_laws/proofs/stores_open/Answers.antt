use Rattle.opening_laws.proofs.Opened.{nothing_opens, opened_is_valid, opened_is_kept, opened_at_start, kept_is_opened, opens_where, opens_again}
use Rattle.opening_laws.proofs.stores_open.Goals as goal

pub returns : goal.returns
returns c = record {
  nothing = nothing_opens;
  valid = opened_is_valid;
  kept = opened_is_kept;
  start = opened_at_start;
  opened = kept_is_opened;
  exactly = opens_where;
  again = opens_again;
}
