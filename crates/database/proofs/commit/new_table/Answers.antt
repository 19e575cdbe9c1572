use Rattle.std.proofs.Common.{◌≡◌, ◌∙◌, Some, ap, sym}
use Rattle.lens_specs.specs.Common.{sort_of}
use Rattle.lens_laws.proofs.Common.{given_is}
use Rattle.database.specs.Staging.{table_of}
use Rattle.database.proofs.commit.new_table.Goals as goal

pub returns-in_ok-columns-in-Some : goal.returns-in_ok-columns-in-Some
returns-in_ok-columns-in-Some c =
    let L = c.args.lens.now in
    let columns : c.in_ok-columns-in-Some.columns ≡ (sort_of L).columns =
    c.in_ok-columns-in-Some.ensures ∙ c.cols.ensures.value ∙ ap (λ s. s.columns) (given_is L c.sort.result.now c.sort.ensures.typed c.sort.ensures.given) in
    ap (λ U. Some (c.in-Some.name, U)) columns ∙ sym (ap (λ o. table_of o L) c.in-Some.is)
