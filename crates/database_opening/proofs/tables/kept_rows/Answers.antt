use Rattle.std.proofs.Common.{◌∙◌, Err, get_or, sym}
use Rattle.plain_values.proofs.Common.{exact, none_is}
use Rattle.std.specs.FinMap as finmap
use Rattle.table_keeper.specs.Changes.{names_of}
use Rattle.table_keeper.specs.Places.{rows_in}
use Rattle.table_keeper.proofs.ByName.{rows_found, there_is}
use Rattle.table_keeper.proofs.Places.{found_is}
use Rattle.database_opening.proofs.tables.kept_rows.Goals as goal

pub returns-in-Ok : goal.returns-in-Ok
returns-in-Ok c =
    let tables = c.args.tables.now in
    let name = c.args.name.now in
    let found = c.in-Ok.ensures in
    sym (rows_found tables name c.in-Ok.place c.index-tables-place.result c.requires found.bound (λ d. exact (get_or (names_of tables) c.in-Ok.place d) name (found.position d)))

pub returns-in-Err : goal.returns-in-Err
returns-in-Err c =
    let tables = c.args.tables.now in
    let name = c.args.name.now in
    let found = c.in-Err.ensures in
    sym (none_is (finmap.get (rows_in tables) name) (there_is tables name ∙ sym (found_is tables name (Err c.in-Err.field-0) c.requires found.bound found.position)))
