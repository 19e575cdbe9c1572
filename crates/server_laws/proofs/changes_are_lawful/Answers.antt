use Rattle.server_laws.proofs.Changes.{lines_read, lines_settle, unknown_told, bad_told, removed_first, stale_told, views_fit, puts_set, lines_accepted, by_least_row, by_first_clash, no_fourth, next_reads, lines_tell, lines_differ, others_left, nothing_changed, previews_foretell}
use Rattle.server_laws.proofs.Stale.{last_is_greatest, present_fresh}
use Rattle.server_laws.proofs.changes_are_lawful.Goals as goal

pub returns : goal.returns
returns c = record {
  reads = lines_read;
  settle = lines_settle;
  unknown = unknown_told;
  bad = bad_told;
  removed = removed_first;
  stale = stale_told;
  greatest = last_is_greatest;
  present = present_fresh;
  fits = λ s v l name L on N h. views_fit s l name L on N h v;
  puts = puts_set;
  accepted = λ s v l name L on N h. lines_accepted s l name L on N h v;
  refused = by_least_row;
  clashes = by_first_clash;
  either = no_fourth;
  get_put = nothing_changed;
  put_get = λ s v l m name L on N h accepted asked. next_reads s l name L on N h v accepted m asked;
  told = lines_tell;
  differences = lines_differ;
  others = others_left;
  previews = previews_foretell;
}
