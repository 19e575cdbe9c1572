use Rattle.sqlite_keeper.proofs.NamesAlike.{names_listed}
use Rattle.sqlite_keeper.proofs.tables.rows_of.Goals as goal

pub read_rows-requires : goal.read_rows-requires
read_rows-requires g c = names_listed c.args.columns.now c.in_ok-names.names c.pairs-2.result.now c.in_ok-names.ensures c.pairs-2.ensures
