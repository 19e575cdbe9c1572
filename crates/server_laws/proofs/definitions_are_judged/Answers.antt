use Rattle.server_laws.proofs.Definitions.{taken_is_read, taken_where, taken_is_added, refused_stays, faults_told, tables_empty, views_show, taken_once, lenses_stay, tables_left, views_left}
use Rattle.server_laws.proofs.definitions_are_judged.Goals as goal

pub returns : goal.returns
returns c = record {
  read = taken_is_read;
  taken = taken_where;
  added = taken_is_added;
  refused = refused_stays;
  faults = faults_told;
  tables = tables_empty;
  views = views_show;
  once = taken_once;
  stays = lenses_stay;
  tables_stay = tables_left;
  views_stay = views_left;
}
