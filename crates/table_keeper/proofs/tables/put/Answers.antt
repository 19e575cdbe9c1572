use Rattle.std.proofs.Common.{arith}
use Rattle.table_keeper.proofs.ByName.{length_names, names_set, rows_set}
use Rattle.table_keeper.proofs.tables.put.Goals as goal

pub returns-clause-names : goal.returns-clause-names
returns-clause-names c = names_set c.args.tables.now c.args.placed.place c.args.placed.table c.requires.fits.1

pub returns-clause-rows : goal.returns-clause-rows
returns-clause-rows c =
    rows_set c.args.tables.now c.args.placed.place c.args.placed.table c.requires.rising (omega (arith, length_names c.args.tables.now, c.requires.fits.0)) c.requires.fits.1
