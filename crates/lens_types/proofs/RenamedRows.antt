-- Rows with a new name for a column.
use Rattle.std.proofs.Common.{◌≡◌, Bool, true, false, cond, List, [], ◌∷◌, ap, sym, subst, ◌∙◌, refl, is_some, Option, None}
use Rattle.std.specs.FinMap as finmap
use Rattle.plain_values.proofs.Common.{filter_map, cons_option, eq_by_cmp, or_left, or_right, bytes_cmp, Row}
use Rattle.lens_values.specs.Paired.{AreAsMany, paired}
use Rattle.plain_values.specs.SortedSet as set
use Rattle.plain_values.specs.declared.value.Value.{Value}
use Rattle.lens_values.proofs.Cells.{all_made, all_many}
use Rattle.fd_laws.proofs.Common.{name_itself, other_name}
use Rattle.lens_laws.proofs.Common.{over_renamed, IsOver}
use Rattle.lens_laws.proofs.Rename.{at-renamed}
use Rattle.lens_specs.specs.Common.{Name, Names, is_among, renamed, renamed_names, renamed_row, at}

-- what a renamed row has at one of its names is what the row has at the old name
value_there : (A B : Name) (r : Row) (c : Name) → is_some (at (renamed_row A B r) c) ≡ true → at (renamed_row A B r) c ≡ at r (renamed B A c)
value_there A B r c i = at-renamed A B r c ∙ by_tests (eq_by_cmp bytes_cmp c B) (eq_by_cmp bytes_cmp c A) (sym (ap is_some (at-renamed A B r c)) ∙ i)
  where
    by_tests : (b a : Bool) → is_some (cond b (at r A) (cond a None (at r c))) ≡ true → cond b (at r A) (cond a None (at r c)) ≡ at r (cond b A c)
    by_tests true a h = refl
    by_tests false true h = cc
    by_tests false false h = refl

-- what is found along a list is told by its members
found_alike : {X : Type 0} (f g : Name → Option X) (ns : List Name) → ((c : Name) → is_among c ns ≡ true → f c ≡ g c) → filter_map f ns ≡ filter_map g ns
found_alike f g [] h = refl
found_alike f g (n ∷ ns) h =
    ap (λ o. cons_option o (filter_map f ns)) (h n (or_left _ _ (name_itself n)))
    ∙ ap (cons_option (g n)) (found_alike f g ns (λ c i. h c (or_right (eq_by_cmp bytes_cmp c n) _ i)))

values_are : (A B : Name) (r : Row) (C : Names) (vs : List Value) → IsOver C (renamed_row A B r) → vs ≡ filter_map (λ c. at r (renamed B A c)) (set.items C) → vs ≡ filter_map (finmap.get (renamed_row A B r)) (set.items C)
values_are A B r C vs over is =
    is ∙ found_alike (λ c. at r (renamed B A c)) (finmap.get (renamed_row A B r)) (set.items C)
    (λ c i. sym (value_there A B r c (over c ∙ set.contains-items C c ∙ i)))

pub as_many_values : (A B : Name) (r : Row) (C : Names) (vs : List Value) → IsOver C (renamed_row A B r) → vs ≡ filter_map (λ c. at r (renamed B A c)) (set.items C) → AreAsMany C vs
as_many_values A B r C vs over is = all_many C (renamed_row A B r) vs (λ c. sym (over c)) (values_are A B r C vs over is)

pub row_made : (A B : Name) (r : Row) (C : Names) (vs : List Value) → IsOver C (renamed_row A B r) → vs ≡ filter_map (λ c. at r (renamed B A c)) (set.items C) → finmap.from_entries (paired C vs) ≡ renamed_row A B r
row_made A B r C vs over is = all_made C (renamed_row A B r) vs (λ c. sym (over c)) (values_are A B r C vs over is)

-- the new names of a row's names
pub new_names : (A B : Name) (r : Row) (C D : Names) → ((c : Name) → is_some (at r c) ≡ set.contains C c) → set.contains C B ≡ false → D ≡ renamed_names A B C → IsOver D (renamed_row A B r)
new_names A B r C D over free is =
    subst (λ E. IsOver E (renamed_row A B r)) (sym is) (over_renamed B A C r (λ c i. other_name c B C i free) over)
