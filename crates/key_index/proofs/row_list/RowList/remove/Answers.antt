use Rattle.std.proofs.Common.{◌≡◌, ap, sym, ◌∙◌, subst, is_ok}
use Rattle.plain_values.proofs.Common.{remove, IsStrictlySortedBy, row_cmp, row_cmp_total}
use Rattle.plain_values.specs.SortedSet as set
use Rattle.row_sets.specs.Members.{is_in}
use Rattle.row_sets.proofs.Places.{searched}
use Rattle.key_index.specs.Lists.{set_of}
use Rattle.key_index.proofs.Lists.{none_removed}
use Rattle.key_index.proofs.Rising.{less_rises, listed_less}
use Rattle.key_index.proofs.row_list.RowList.remove.Goals as goal

pub invariant_of-self : goal.invariant_of-self
invariant_of-self c = subst (IsStrictlySortedBy row_cmp) (sym c.remove-was.ensures.items) (less_rises c.self.inside.rows.items c.in-Ok.place c.self.invariant)

pub returns-in-Ok : goal.returns-in-Ok
returns-in-Ok c =
    let row = c.args.row.now in
    let place = c.in-Ok.place in
    ap set.from_list c.remove-was.ensures.items
    ∙ subst (λ xs. set_of (remove xs place) ≡ set.remove (set_of xs) row) c.deref.ensures.value
    (listed_less c.deref.result.now row place (subst (IsStrictlySortedBy row_cmp) (sym c.deref.ensures.value) c.self.invariant) c.in-Ok.ensures.bound c.in-Ok.ensures.ok)
    ∙ ap (λ s. set.remove s row) c.self.view_is

pub returns-in_default : goal.returns-in_default
returns-in_default c =
    let row = c.args.row.now in
    let known : is_ok c.binary_search.result ≡ set.contains c.args.self.now row =
    searched row_cmp_total c.deref.result.now row c.binary_search.result (subst (IsStrictlySortedBy row_cmp) (sym c.deref.ensures.value) c.self.invariant) c.binary_search.ensures.bound c.binary_search.ensures.position
    ∙ ap (λ l. is_in l row) c.deref.ensures.value
    ∙ sym (set.contains-from_list row_cmp_total _ row) ∙ ap (λ s. set.contains s row) c.self.view_is in
    sym (none_removed c.args.self.now row (sym known ∙ ap is_ok c.in_default.is))
