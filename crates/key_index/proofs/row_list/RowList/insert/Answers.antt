use Rattle.std.proofs.Common.{◌≡◌, ◌++◌, ◌∷◌, [], ap, sym, ◌∙◌, subst, is_ok, is_err, Ok, Err, Result, true, false, not}
use Rattle.plain_values.proofs.Common.{insert, IsStrictlySortedBy, row_cmp, row_cmp_total, row_cmp-IsAntisymmetric}
use Rattle.plain_values.specs.SortedSet as set
use Rattle.row_sets.specs.Members.{is_in}
use Rattle.row_sets.proofs.Places.{searched, put_rises, put_at}
use Rattle.key_index.proofs.Rising.{listed_more}
use Rattle.key_index.proofs.row_list.RowList.insert.Goals as goal

pub invariant_of-self-then-is_above : goal.invariant_of-self-then-is_above
invariant_of-self-then-is_above c =
    subst (IsStrictlySortedBy row_cmp) (ap (λ l. l ++ c.args.row ∷ []) c.deref.ensures.value ∙ sym c.in_ok-push.ensures.items) (c.is_above.ensures c.if-is_above.true)

pub returns-then-is_above-clause-ok : goal.returns-then-is_above-clause-ok
returns-then-is_above-clause-ok c =
    ap set.from_list c.in_ok-push.ensures.items ∙ listed_more c.self.inside.rows.items c.args.row ∙ ap (λ s. set.insert s c.args.row) c.self.view_is

pub invariant_of-self-in-Continue-branch-2 : goal.invariant_of-self-in-Continue-branch-2
invariant_of-self-in-Continue-branch-2 c =
    subst (IsStrictlySortedBy row_cmp) (ap (λ l. insert l c.in-Err.place c.args.row) c.deref-2.ensures.value ∙ sym c.in_ok-insert.ensures.items)
    (put_rises row_cmp_total c.deref-2.result.now c.args.row c.in-Err.place (subst (IsStrictlySortedBy row_cmp) (sym c.deref-2.ensures.value) c.self.invariant) c.in-Err.ensures.bound c.in-Err.ensures.position)

pub returns-in_ok-insert-clause-ok : goal.returns-in_ok-insert-clause-ok
returns-in_ok-insert-clause-ok c =
    ap set.from_list c.in_ok-insert.ensures.items
    ∙ put_at row_cmp_total row_cmp-IsAntisymmetric c.self.inside.rows.items c.args.row c.in-Err.place
    ∙ ap (λ s. set.insert s c.args.row) c.self.view_is

pub returns-in_default-clause-ok : goal.returns-in_default-clause-ok
returns-in_default-clause-ok c =
    let known : is_ok c.binary_search.result ≡ set.contains c.args.self.now c.args.row =
    searched row_cmp_total c.deref-2.result.now c.args.row c.binary_search.result (subst (IsStrictlySortedBy row_cmp) (sym c.deref-2.ensures.value) c.self.invariant) c.binary_search.ensures.bound c.binary_search.ensures.position
    ∙ ap (λ l. is_in l c.args.row) c.deref-2.ensures.value
    ∙ sym (set.contains-from_list row_cmp_total _ c.args.row) ∙ ap (λ s. set.contains s c.args.row) c.self.view_is in
    sym (set.insert_present row_cmp_total row_cmp-IsAntisymmetric c.args.self.now c.args.row (sym known ∙ ap is_ok c.in_default.is))
