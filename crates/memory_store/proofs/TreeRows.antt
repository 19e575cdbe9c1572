-- Rows that are put in and taken out one after the other.
use Rattle.std.proofs.Common.{◌≡◌, ◌∙◌, Bool, true, false, List, [], ◌∷◌, ap, sym, refl, ◌||◌, ◌&&◌, not}
use Rattle.plain_values.proofs.Common.{eq_by_cmp, or_comm, and_comm, row_cmp, Row, row_cmp_total, row_cmp-IsAntisymmetric}
use Rattle.plain_values.specs.SortedSet as set
use Rattle.lens_specs.specs.Common.{Delta, new_view, Rows, has, minus, union}
use Rattle.row_sets.specs.Members.{is_in}
use Rattle.memory_store.specs.InMemory.{with_rows, without_rows}

one_more : (a b c : Bool) → (a || (b || c)) ≡ ((b || a) || c)
one_more true true c = refl
one_more true false c = refl
one_more false true c = refl
one_more false false c = refl

one_less : (a b c : Bool) → (not a && (not b && c)) ≡ (not (b || a) && c)
one_less true true c = refl
one_less true false c = refl
one_less false true c = refl
one_less false false c = refl

same_rows : (M N : Rows) → ((row : Row) → has M row ≡ has N row) → M ≡ N
same_rows M N is = set.same_set row_cmp_total row_cmp-IsAntisymmetric M N is

in_with : (rows : List Row) (M : Rows) (q : Row) → has (with_rows rows M) q ≡ (is_in rows q || has M q)
in_with [] M q = refl
in_with (row ∷ rows) M q =
    in_with rows (set.insert M row) q ∙ ap (λ b. is_in rows q || b) (set.contains-insert row_cmp_total M row q)
    ∙ one_more (is_in rows q) (eq_by_cmp row_cmp q row) (has M q)

in_without : (rows : List Row) (M : Rows) (q : Row) → has (without_rows rows M) q ≡ (not (is_in rows q) && has M q)
in_without [] M q = refl
in_without (row ∷ rows) M q =
    in_without rows (set.remove M row) q ∙ ap (λ b. not (is_in rows q) && b) (set.contains-remove row_cmp_total M row q)
    ∙ one_less (is_in rows q) (eq_by_cmp row_cmp q row) (has M q)

-- all rows of a set, put in
with_all : (M N : Rows) → with_rows (set.items N) M ≡ union M N
with_all M N = same_rows _ _ (λ q.
    in_with (set.items N) M q ∙ ap (λ b. b || has M q) (sym (set.contains-items N q)) ∙ or_comm (has N q) (has M q)
    ∙ sym (set.contains-union row_cmp_total M N q))

-- all rows of a set, taken out
without_all : (M N : Rows) → without_rows (set.items N) M ≡ minus M N
without_all M N = same_rows _ _ (λ q.
    in_without (set.items N) M q ∙ ap (λ b. not b && has M q) (sym (set.contains-items N q)) ∙ and_comm (not (has N q)) (has M q)
    ∙ sym (set.contains-difference row_cmp_total M N q))

-- the rows of a difference, taken out and put in one after the other
pub made_is : (d : Delta) (M : Rows) → with_rows (set.items d.add) (without_rows (set.items d.remove) M) ≡ new_view M d
unfolding new_view
made_is d M = with_all (without_rows (set.items d.remove) M) d.add ∙ ap (λ rest. union rest d.add) (without_all M d.remove)
