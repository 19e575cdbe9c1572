use Rattle.std.proofs.Common.{◌∙◌, sym, ap, map}
use Rattle.plain_values.proofs.Common.{map_push}
use Rattle.std.specs.FinMap as finmap
use Rattle.table_keeper.specs.Places.{entry_of, rows_in, with_entries}
use Rattle.table_keeper.proofs.Deltas.{with_entries-push}
use Rattle.table_keeper.proofs.tables.put_all.Goals as goal

pub loop-placed-preserved : goal.loop-placed-preserved
loop-placed-preserved c =
    let placed = c.in-Some.placed in
    let before = rows_in c.args.tables.now in record {
      names = c.put.ensures.names ∙ c.loop-placed.invariant.names;
      rows = c.put.ensures.rows ∙ ap (λ m. finmap.insert m placed.table.table placed.table.rows) c.loop-placed.invariant.rows
          ∙ sym (ap (λ es. with_entries es before) (map_push entry_of c.loop-placed.yielded placed) ∙ with_entries-push (map entry_of c.loop-placed.yielded) (entry_of placed) before);
    }
