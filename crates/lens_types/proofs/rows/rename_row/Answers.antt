use Rattle.std.proofs.Common.{sym, ◌∙◌}
use Rattle.lens_values.proofs.Cells.{own_names}
use Rattle.lens_specs.specs.Common.{renamed_names}
use Rattle.lens_types.proofs.RenamedRows.{new_names}
use Rattle.lens_types.proofs.rows.rename_row.Goals as goal

pub named-requires : goal.named-requires
unfolding renamed_names
named-requires c =
    let N = c.names.result.now in
    let known = own_names N c.args.row.now c.names.ensures in
    new_names c.args.col.now c.args.to.now c.args.row.now N c.in_ok-names.names (λ n. sym (known n)) (known c.args.to.now ∙ c.requires.free) c.in_ok-names.ensures
