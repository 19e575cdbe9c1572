use Rattle.std.proofs.Common.{◌≡◌, ◌∙◌, ap}
use Rattle.lens_specs.specs.Common.{sort_of, tables_of}
use Rattle.server_specs.specs.Common.{described}
use Rattle.request_text.specs.Answers.{conjuncts_view}
use Rattle.view_answers.proofs.questions.type_answer.Goals as goal

pub returns : goal.returns
returns c =
    let L = c.args.opened.now.view.lens in
    let sort : c.sort-sort.result.now ≡ sort_of L = c.sort-sort.ensures.sort in
    let columns : c.in_ok-copy.field-0 ≡ (sort_of L).columns = c.in_ok-copy.ensures ∙ c.cols.ensures.value ∙ ap (λ s. s.columns) sort in
    let tree : c.new.result ≡ (sort_of L).tree = c.new.ensures ∙ c.in_ok-copied.ensures ∙ c.edges.ensures.edges ∙ c.tree.ensures.value ∙ ap (λ s. s.tree) sort in
    let predicate : conjuncts_view c.in_ok-formulas.field-0 ≡ (sort_of L).predicate =
    c.in_ok-formulas.ensures ∙ c.conjuncts.ensures.list ∙ c.pred.ensures.value ∙ ap (λ s. s.predicate) sort in
    let tables = c.in_ok-tables.ensures ∙ ap tables_of c.lens.ensures.lens in
    (λ i. described (columns i) (tree i) (predicate i) (tables i) c.args.opened.now.version)
