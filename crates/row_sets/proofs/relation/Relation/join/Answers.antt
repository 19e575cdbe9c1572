use Rattle.std.proofs.Common.{◌≡◌, ◌∙◌, sym, ap, subst, refl, true}
use Rattle.plain_values.specs.Columns.{kinds_differ}
use Rattle.plain_values.proofs.Common.{override}
use Rattle.plain_values.specs.SortedSet as set
use Rattle.lens_specs.specs.Common.{both_columns, names, Names, Columns, Fits, Rows, natural}
use Rattle.lens_specs.specs.Relation.{join_relations}
use Rattle.row_sets.specs.Joins.{pairs_on}
use Rattle.row_sets.proofs.Natural.{joined_fit, natural_is}
use Rattle.row_sets.proofs.relation.Relation.join.Goals as goal

same_columns : (U V : Columns) → override U V ≡ both_columns U V
unfolding both_columns
same_columns U V = refl

pub united-requires : goal.united-requires
united-requires c = (λ i. kinds_differ (c.self.view_is i).columns (c.other.view_is i).columns) ∙ c.requires

pub invariant_of-result : goal.invariant_of-result
invariant_of-result c = λ row there.
    let U : Columns = c.self.inside.columns in
    let V : Columns = c.other.inside.columns in
    let M : Rows = c.self.inside.rows in
    let N : Rows = c.other.inside.rows in
    let rows : c.in_ok-rows.rows ≡ pairs_on (set.intersection (names U) (names V)) M N =
    c.in_ok-rows.ensures ∙ ap (λ (S : Names). pairs_on S M N) c.in_ok-shared.ensures in
    subst (λ (cs : Columns). Fits cs row) (sym c.in_ok-columns.ensures)
    (joined_fit U V M N c.self.invariant c.other.invariant row (subst (λ s. set.contains s row ≡ true) rows there))

pub returns : goal.returns
returns c =
    let U : Columns = c.self.inside.columns in
    let V : Columns = c.other.inside.columns in
    let M : Rows = c.self.inside.rows in
    let N : Rows = c.other.inside.rows in
    let columns : c.in_ok-columns.columns ≡ both_columns U V = c.in_ok-columns.ensures ∙ same_columns U V in
    let rows : c.in_ok-rows.rows ≡ natural (names U) (names V) M N =
    c.in_ok-rows.ensures ∙ ap (λ (S : Names). pairs_on S M N) c.in_ok-shared.ensures ∙ natural_is U V M N c.other.invariant in
    (λ k. record { columns = columns k; rows = rows k }) ∙ (λ k. join_relations (c.self.view_is k) (c.other.view_is k))
