use Rattle.std.proofs.Common.{◌≡◌, ◌∙◌, ap, subst, IfOk, option_map}
use Rattle.plain_values.specs.SortedSet as set
use Rattle.server_specs.specs.Common.{catalogue}
use Rattle.opening_specs.specs.Opening.{damage_among}
use Rattle.table_keeper.specs.Places.{rows_in}
use Rattle.database_opening.specs.Openings.{damage_view}
use Rattle.database_opening.proofs.Inspected.{damage_found}
use Rattle.database_opening.proofs.tables.damage_of_tables.Goals as goal

pub returns : goal.returns
returns c =
    let known = catalogue c.args.catalog.now.texts in
    let tables = c.args.tables.now in
    let found = ap (damage_among known (rows_in tables)) (c.as_slice.ensures ∙ ap set.items c.in_ok-names.ensures) ∙ damage_found known c.args.defined.now tables c.requires.defined in
    subst (λ d. IfOk c.first_damage.result (λ damage. option_map damage_view damage ≡ d)) found c.first_damage.ensures
