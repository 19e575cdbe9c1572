-- Laws of relations, by their rows.
use Rattle.std.proofs.Common.{◌≡◌, Bool, true, false, not, ◌&&◌, ◌||◌, Some, None, sym, ◌∙◌, ◌⊎◌}
use Rattle.plain_values.proofs.Common.{and_parts, and_from, or_cases, not-true, not_from_false, or_left, or_right, eq_by_cmp, list_any, find_some, find_none, in_filter, from_filter, in_map, from_map, in_flat_map, from_flat_map, Row, row_cmp, same_bool}
use Rattle.plain_values.specs.SortedSet as set
use Rattle.fd_laws.proofs.Rows.{row_total, row_exact, tied_row, row_itself}
use Rattle.lens_specs.specs.Common.{Names, agree, paste, cut, Rows, has, those, union, minus, image, project, first_row, joined_with}
use Rattle.lens_specs.specs.Relation.{join}

listed : (M : Rows) (r : Row) → has M r ≡ true → list_any (eq_by_cmp row_cmp r) (set.items M) ≡ true
listed M r h = sym (set.contains-items M r) ∙ h

has_listed : (M : Rows) (r : Row) → list_any (eq_by_cmp row_cmp r) (set.items M) ≡ true → has M r ≡ true
has_listed M r h = set.contains-items M r ∙ h

-- relations with the same rows are one
pub same_rel : (M N : Rows) → ((r : Row) → has M r ≡ true → has N r ≡ true) → ((r : Row) → has N r ≡ true → has M r ≡ true) → M ≡ N
same_rel M N f g = set.same_set row_total row_exact M N (λ r. same_bool _ _ (f r) (g r))

-- each law with `has` as a test
pub has-those : (p : Row → Bool) (M : Rows) (r : Row) → has (those p M) r ≡ (has M r && p r)
has-those p M r = set.contains-filter row_total row_exact p M r

pub has-union : (M N : Rows) (r : Row) → has (union M N) r ≡ (has M r || has N r)
has-union M N r = set.contains-union row_total M N r

pub has-minus : (M N : Rows) (r : Row) → has (minus M N) r ≡ (has M r && not (has N r))
has-minus M N r = set.contains-difference row_total M N r

-- what these are, for `grind`
pub ruleset sets = (has-those, has-union, has-minus)

-- and as facts
pub in_those : (p : Row → Bool) (M : Rows) (r : Row) → has M r ≡ true → p r ≡ true → has (those p M) r ≡ true
in_those p M r h t = has-those p M r ∙ and_from _ _ h t

pub from_those : (p : Row → Bool) (M : Rows) (r : Row) → has (those p M) r ≡ true → (has M r ≡ true) × (p r ≡ true)
from_those p M r h = and_parts _ _ (sym (has-those p M r) ∙ h)

pub in_union_left : (M N : Rows) (r : Row) → has M r ≡ true → has (union M N) r ≡ true
in_union_left M N r h = has-union M N r ∙ or_left _ _ h

pub in_union_right : (M N : Rows) (r : Row) → has N r ≡ true → has (union M N) r ≡ true
in_union_right M N r h = has-union M N r ∙ or_right _ _ h

pub from_union : (M N : Rows) (r : Row) → has (union M N) r ≡ true → (has M r ≡ true) ⊎ (has N r ≡ true)
from_union M N r h = or_cases _ _ (sym (has-union M N r) ∙ h)

pub in_minus : (M N : Rows) (r : Row) → has M r ≡ true → has N r ≡ false → has (minus M N) r ≡ true
in_minus M N r h t = has-minus M N r ∙ and_from _ _ h (not_from_false _ t)

pub from_minus : (M N : Rows) (r : Row) → has (minus M N) r ≡ true → (has M r ≡ true) × (has N r ≡ false)
from_minus M N r h = let w = and_parts _ _ (sym (has-minus M N r) ∙ h) in (w.0, not-true _ w.1)

pub in_image : (f : Row → Row) (M : Rows) (r : Row) → has M r ≡ true → has (image f M) (f r) ≡ true
unfolding image
in_image f M r h = set.contains-from_list row_total _ (f r) ∙ in_map (eq_by_cmp row_cmp) tied_row row_itself (eq_by_cmp row_cmp) tied_row row_itself f (set.items M) r (listed M r h)

pub from_image : (f : Row → Row) (M : Rows) (q : Row) → has (image f M) q ≡ true → (r : Row) × (has M r ≡ true) × (q ≡ f r)
unfolding image
from_image f M q h =
    let w = from_map (eq_by_cmp row_cmp) tied_row row_itself (eq_by_cmp row_cmp) tied_row row_itself f (set.items M) q (sym (set.contains-from_list row_total _ q) ∙ h) in
    (w.0, has_listed M w.0 w.1, w.2)

pub in_project : (C : Names) (M : Rows) (r : Row) → has M r ≡ true → has (project C M) (cut C r) ≡ true
unfolding project
in_project C M r h = in_image (cut C) M r h

pub from_project : (C : Names) (M : Rows) (q : Row) → has (project C M) q ≡ true → (r : Row) × (has M r ≡ true) × (q ≡ cut C r)
unfolding project
from_project C M q h = from_image (cut C) M q h

pub first_some : (p : Row → Bool) (L : Rows) (l : Row) → first_row p L ≡ Some l → (has L l ≡ true) × (p l ≡ true)
unfolding first_row
first_some p L l e = let w = find_some (eq_by_cmp row_cmp) tied_row row_itself p (set.items L) l e in (has_listed L l w.0, w.1)

pub first_none : (p : Row → Bool) (L : Rows) → first_row p L ≡ None → (l : Row) → has L l ≡ true → p l ≡ false
unfolding first_row
first_none p L e l h = find_none (eq_by_cmp row_cmp) tied_row row_itself p (set.items L) e l (listed L l h)

-- the natural join
pub in_join : (S V : Names) (M N : Rows) (m n : Row) → has M m ≡ true → has N n ≡ true → agree S m n ≡ true → has (join S V M N) (paste m V n) ≡ true
unfolding join
in_join S V M N m n hm hn a =
    let one = in_map (eq_by_cmp row_cmp) tied_row row_itself (eq_by_cmp row_cmp) tied_row row_itself (paste m V) _ n (in_filter (eq_by_cmp row_cmp) tied_row row_itself (agree S m) (set.items N) n (listed N n hn) a) in
    set.contains-from_list row_total _ (paste m V n)
    ∙ in_flat_map (eq_by_cmp row_cmp) tied_row row_itself (eq_by_cmp row_cmp) tied_row row_itself (λ x. joined_with S V x (set.items N)) (set.items M) m (paste m V n) (listed M m hm) one

pub from_join : (S V : Names) (M N : Rows) (q : Row) → has (join S V M N) q ≡ true
    → (m : Row) × (n : Row) × (has M m ≡ true) × (has N n ≡ true) × (agree S m n ≡ true) × (q ≡ paste m V n)
unfolding join
from_join S V M N q h =
    let w = from_flat_map (eq_by_cmp row_cmp) tied_row row_itself (eq_by_cmp row_cmp) tied_row row_itself (λ x. joined_with S V x (set.items N)) (set.items M) q (sym (set.contains-from_list row_total _ q) ∙ h) in
    let v = from_map (eq_by_cmp row_cmp) tied_row row_itself (eq_by_cmp row_cmp) tied_row row_itself (paste w.0 V) _ q w.2 in
    let u = from_filter (eq_by_cmp row_cmp) tied_row row_itself (agree S w.0) (set.items N) v.0 v.1 in
    (w.0, v.0, has_listed M w.0 w.1, has_listed N v.0 u.0, u.1, v.2)
