use Rattle.std.proofs.Common.{◌∙◌, ap, map}
use Rattle.std.specs.FinMap as finmap
use Rattle.plain_values.proofs.Common.{bytes_cmp}
use Rattle.lens_specs.specs.Common.{renamed}
use Rattle.lens_types.proofs.Renamings.{columns_renamed}
use Rattle.lens_types.proofs.renaming.rename_columns.Goals as goal

pub returns-in-Ok : goal.returns-in-Ok
returns-in-Ok c =
    c.in-Ok.ensures.ok
    ∙ ap (λ es. finmap.from_entries {R = bytes_cmp} es) (c.in_ok-renamed_pairs.ensures ∙ ap (map (λ e. (renamed c.args.col.now c.args.to.now e.0, e.1))) c.pairs.ensures)
    ∙ columns_renamed c.args.col.now c.args.to.now c.args.cols.now c.requires
