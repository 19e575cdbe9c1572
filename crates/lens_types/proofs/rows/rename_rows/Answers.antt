use Rattle.std.proofs.Common.{sym, ◌∙◌}
use Rattle.lens_specs.specs.Common.{renamed_names}
use Rattle.lens_types.proofs.RenamedRows.{new_names}
use Rattle.lens_types.proofs.rows.rename_rows.Goals as goal

pub named-requires : goal.named-requires
unfolding renamed_names
named-requires c =
    new_names c.args.col.now c.args.to.now c.row-item.result c.args.cols.now c.in_ok-copy.field-0
    (c.requires.over c.row-item.result (c.loop-row.row-index, c.loop-row-test.true, sym c.row-item.is))
    c.requires.free (c.in_ok-copy.ensures ∙ c.in_ok-names.ensures)
