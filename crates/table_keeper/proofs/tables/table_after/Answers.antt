use Rattle.std.proofs.Common.{◌≡◌, ◌∙◌, get_or, sym, ap}
use Rattle.lens_specs.specs.Common.{Rows, new_view, rows_at, or_empty}
use Rattle.table_keeper.specs.Places.{rows_in}
use Rattle.table_keeper.proofs.ByName.{rows_found, there_is}
use Rattle.table_keeper.proofs.tables.table_after.Goals as goal

pub place_of-place-requires-clause-there : goal.place_of-place-requires-clause-there
place_of-place-requires-clause-there c = sym (there_is c.args.tables.now c.args.change.now.table) ∙ c.requires.there

pub returns-clause-entry : goal.returns-clause-entry
returns-clause-entry c =
    let tables = c.args.tables.now in
    let name = c.args.change.now.table in
    let delta = c.args.change.now.delta in
    let rows : rows_at (rows_in tables) name ≡ (get_or tables c.place_of-place.result c.index-tables-place.result).rows =
    ap or_empty (rows_found tables name c.place_of-place.result c.index-tables-place.result c.requires.rising c.place_of-place.ensures.within c.place_of-place.ensures.named) in
    let after : c.in_ok-rows.rows ≡ new_view (rows_at (rows_in tables) name) delta = c.in_ok-rows.ensures ∙ ap (λ (M : Rows). new_view M delta) (sym rows) in
    λ k. (name, after k)
