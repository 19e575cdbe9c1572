use Rattle.std.proofs.Common.{rules}
use Rattle.sqlite_value.specs.Value.{owned}
use Rattle.sqlite_value.specs.declared.value.Value.TheVariants as cell
use Rattle.sqlite_keeper.proofs.CellsLemmas.{reads_back_as}
use Rattle.sqlite_keeper.proofs.cells.cell_of.Goals as goal
use mir.Syntax.{w64}
use mir.Val.{of_z, to_z}

pub returns-in-Null-clause-back : goal.returns-in-Null-clause-back
returns-in-Null-clause-back c = reads_back_as c.args.kind c.args.value.now (owned c.empty_cell.result) (search rules)

pub returns-in-Int-clause-back : goal.returns-in-Int-clause-back
returns-in-Int-clause-back c = reads_back_as c.args.kind c.args.value.now (cell.Int (to_z w64 (of_z w64 c.in-Int.number))) (search rules)

pub returns-in-Text-clause-back : goal.returns-in-Text-clause-back
returns-in-Text-clause-back c = reads_back_as c.args.kind c.args.value.now (cell.Text c.as_bytes.result.now) (search rules)

pub returns-after-flag-clause-back : goal.returns-after-flag-clause-back
returns-after-flag-clause-back c = reads_back_as c.args.kind c.args.value.now (cell.Int (to_z w64 c.if-flag.result-bits)) (search rules)
