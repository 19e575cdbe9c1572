use Rattle.std.proofs.Common.{◌∙◌, ap, map}
use Rattle.signed_delta.specs.Tables.{table_delta}
use Rattle.table_keeper.specs.Places.{rows_in, with_entries}
use Rattle.table_keeper.proofs.Deltas.{all_there, all_at_once, map_twice}
use Rattle.table_keeper.proofs.tables.change_tables.Goals as goal

pub tables_after-requires-clause-there : goal.tables_after-requires-clause-there
tables_after-requires-clause-there c = all_there c.args.changes.now (rows_in c.args.tables.now) c.requires.apply

pub returns-clause-ok : goal.returns-clause-ok
returns-clause-ok c =
    let before = rows_in c.args.tables.now in
    c.put_all.ensures.rows ∙ ap (λ es. with_entries es before) (c.in_ok-all.ensures.entries ∙ map_twice c.args.changes.now before)
    ∙ all_at_once (map table_delta c.args.changes.now) before c.requires.apply
