use Rattle.std.proofs.Common.{◌≡◌, ◌∙◌, ap, subst, sym}
use Rattle.lens_specs.specs.Common.{Fits, sort_of, has, Sort}
use Rattle.lens_laws.proofs.Common.{get_sort, given_is}
use Rattle.view_reading.proofs.reading.read_in.Goals as goal

pub with_rows-requires : goal.with_rows-requires
with_rows-requires g c = λ row there.
    let L = c.args.lens.now in
    let columns : c.in_ok-columns.columns ≡ (sort_of L).columns =
    c.in_ok-columns.ensures ∙ c.cols.ensures.value ∙ ap (λ (s : Sort). s.columns) (given_is L c.sort.result.now c.sort.ensures.typed c.sort.ensures.given) in
    subst (λ U. Fits U row) (sym columns)
    ((get_sort L c.args.tables.now.present.relations c.sort.ensures.typed c.requires).columns row (ap (λ M. has M row) (sym c.in_ok-rows.ensures.value) ∙ there))

pub returns-clause-value : goal.returns-clause-value
returns-clause-value g c =
    let L = c.args.lens.now in
    let columns : c.in_ok-columns.columns ≡ (sort_of L).columns =
    c.in_ok-columns.ensures ∙ c.cols.ensures.value ∙ ap (λ (s : Sort). s.columns) (given_is L c.sort.result.now c.sort.ensures.typed c.sort.ensures.given) in
    c.with_rows.ensures ∙ (λ i. record { columns = columns i; rows = c.in_ok-rows.ensures.value i })
