use Rattle.std.proofs.Common.{◌≡◌, ◌∙◌, true, ap, subst, sym, ◌≢◌, [], not}
use Rattle.plain_values.proofs.Common.{list_all, is_nullable}
use Rattle.std.specs.FinMap as finmap
use Rattle.lens_specs.specs.Common.{Columns, sort_of, Relation}
use Rattle.view_answers.proofs.ViewColumns.{all_plain, has_columns}
use Rattle.view_answers.proofs.exports.rows_as_csv.Goals as goal

pub to_csv-requires-clause-some : goal.to_csv-requires-clause-some
to_csv-requires-clause-some g c =
    let v = c.args.opened.now.view in
    let columns : c.columns.result.now ≡ (sort_of v.lens).columns = c.columns.ensures ∙ ap (λ (r : Relation). r.columns) c.in_ok-view.ensures.value in
    subst (λ (U : Columns). finmap.keys U ≢ []) (sym columns) (has_columns v c.requires.viewed)

pub to_csv-requires-clause-plain : goal.to_csv-requires-clause-plain
to_csv-requires-clause-plain g c =
    let L = c.args.opened.now.view.lens in
    let columns : c.columns.result.now ≡ (sort_of L).columns = c.columns.ensures ∙ ap (λ (r : Relation). r.columns) c.in_ok-view.ensures.value in
    subst (λ (U : Columns). list_all (λ c. not (is_nullable c.1)) (finmap.entries U) ≡ true) (sym columns) (all_plain (sort_of L).columns c.requires.plain)
