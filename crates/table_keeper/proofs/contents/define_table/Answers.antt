use Rattle.std.proofs.Common.{◌∙◌, sym}
use Rattle.table_keeper.proofs.ByName.{there_is}
use Rattle.table_keeper.proofs.contents.define_table.Goals as goal

pub add_table-requires-clause-absent : goal.add_table-requires-clause-absent
add_table-requires-clause-absent c = sym (there_is c.args.kept.now.tables.items c.args.name) ∙ c.requires.can
