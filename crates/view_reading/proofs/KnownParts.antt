-- A row whose pairs are all among those of another is the other's part in its columns.
use Rattle.std.proofs.Common.{◌≡◌, ◌∙◌, ◌&&◌, ◌∷◌, ◌+◌, ◌<◌, ◌⊎◌, Bool, List, [], Some, T, ap, arith, cond, get_or, length, take, ℕ, inl, inr, refl, subst, sym, true, false, None, Option, is_some, nat_eq}
use Rattle.plain_values.proofs.Common.{Contains, eq_by_cmp, is_eq, is_lt, eq_by_cmp_equiv, pointwise, same_text, Ordering, Less, Equal, Greater, true≢false, take_more, Contains-append_cases, Contains-append_left, Contains-append_right, Contains-get_or, list_any-from_Contains, bytes_cmp, restrict, value_cmp, value_cmp-IsAntisymmetric, Row, same_is}
use Rattle.std.specs.FinMap as map
use Rattle.std.specs.FinMap.{find}
use Rattle.std.specs.FinMap.Entries.{below_all, is_sorted}
use Rattle.std.proofs.lemmas.List.Elements.{Contains-push, Contains-push_cases}
use Rattle.plain_values.specs.Names.{same_names}
use Rattle.plain_values.specs.SortedSet as set
use Rattle.plain_values.specs.declared.value.Value.{Value}
use Rattle.lens_values.proofs.Cells.{own_names}
use Rattle.lens_specs.specs.Common.{Columns, names, Name, Names, Rows, at, cut}
use Rattle.fd_laws.proofs.Common.{name_itself, tied_name, at-cut, row_total, same_row}
use Rattle.fd_laws.proofs.Rows.{no_value}
use Rattle.lens_laws.proofs.Common.{AllFit, IsOver, fits_is_over}
use Rattle.view_reading.specs.KnownRows.{AreAmong, AreOver}

-- the rows of a set that all fit have its columns
pub all_over : (U : Columns) (M : Rows) (rows : List Row) → AllFit U M → rows ≡ set.items M → AreOver (names U) rows
all_over U M rows fit are r there =
    fits_is_over U r (fit r (set.contains-items M r ∙ list_any-from_Contains (eq_by_cmp_equiv row_total) r (set.items M) (subst (λ l. Contains l r) are there)))

-- pairs with one name and one value are one
same_pair : (p q : Name × Value) → true ≡ pointwise nat_eq p.0 q.0 → value_cmp p.1 q.1 ≡ Equal → p ≡ q
same_pair p q names values = λ i. (same_text p.0 q.0 names i, value_cmp-IsAntisymmetric p.1 q.1 values i)

abbrev Pairs : Type 0
Pairs = List (Name × Value)

-- one pair more is among the others where it is equal to one of them
pub one_more : (xs ys : Pairs) (i j : ℕ) (p q : Name × Value) → i < length xs → j < length ys → p ≡ get_or xs i p → q ≡ get_or ys j q → AreAmong (take i xs) ys
    → true ≡ pointwise nat_eq p.0 q.0 → value_cmp p.1 q.1 ≡ Equal → AreAmong (take (i + 1) xs) ys
one_more xs ys i j p q lt there at by so_far names values r within = elim (Contains-push_cases (take i xs) (get_or xs i p) r (subst (λ l. Contains l r) (take_more xs i p lt) within)) [
  | inl before ↦ so_far r before
  | inr last ↦ subst (Contains ys) (sym by ∙ sym (same_pair p q names values) ∙ at ∙ last) (Contains-get_or ys j q there)
]

-- the value under a name is in a pair with it
found_listed : (c : Name) (es : Pairs) (v : Value) → find bytes_cmp c es ≡ Some v → Contains es (c, v)
found_listed c [] v found = cc
found_listed c (e ∷ es) v found =
    elim (eq_by_cmp bytes_cmp c e.0) as (λ b. eq_by_cmp bytes_cmp c e.0 ≡ b → cond b (Some e.1) (find bytes_cmp c es) ≡ Some v → Contains (e ∷ es) (c, v)) [
      | true ↦ λ tie is. subst (λ p. Contains (e ∷ es) p) (first (sym (tied_name c e.0 tie)) is) (Contains-append_left (e ∷ []) es e (Contains-push [] e))
      | false ↦ λ _ is. Contains-append_right (e ∷ []) es (c, v) (found_listed c es v is)
    ] refl found
  where
    first : e.0 ≡ c → Some e.1 ≡ Some v → e ≡ (c, v)
    first name value = let same : e.1 ≡ v = cc in λ i. (name i, same i)

no_pair : (p : Name × Value) → Contains [] p → ⊥
no_pair p there = let lt = there.1 in omega arith

and_first : (a b : Bool) → T (a && b) → T a
and_first true b h = tt
and_first false b h = h

and_second : (a b : Bool) → T (a && b) → T b
and_second true b h = h
and_second false b h = absurd h

-- a pair of a list is its first one or one of the others
in_list : (e p : Name × Value) (es : Pairs) → Contains (e ∷ es) p → (e ≡ p) ⊎ Contains es p
in_list e p es there = elim (Contains-append_cases (e ∷ []) es p there) [
  | inl at_first ↦ elim (Contains-push_cases [] e p at_first) [ inl none ↦ absurd (no_pair p none) | inr is ↦ inl is ]
  | inr later ↦ inr later
]

-- a name below all of the list is below each of its names
below_each : (x c : Name) (v : Value) (es : Pairs) → T (below_all bytes_cmp x es) → Contains es (c, v) → T (is_lt (bytes_cmp x c))
below_each x c v [] below there = absurd (no_pair (c, v) there)
below_each x c v (e ∷ es) below there = elim (in_list e (c, v) es there) [
  | inl is ↦ subst (λ p. T (is_lt (bytes_cmp x p.0))) is (and_first _ _ below)
  | inr later ↦ below_each x c v es (and_second _ _ below) later
]

not_both : (o : Ordering) → T (is_lt o) → is_eq o ≡ true → ⊥
not_both Less below same = true≢false (sym same)
not_both Equal below same = below
not_both Greater below same = below

-- and a pair of a rising list is found by its name
listed_found : (c : Name) (es : Pairs) (v : Value) → T (is_sorted bytes_cmp es) → Contains es (c, v) → find bytes_cmp c es ≡ Some v
listed_found c [] v rising there = absurd (no_pair (c, v) there)
listed_found c (e ∷ es) v rising there = elim (in_list e (c, v) es there) [
  | inl is ↦ ap (λ b. cond b (Some e.1) (find bytes_cmp c es)) (ap (λ p. eq_by_cmp bytes_cmp c p.0) is ∙ name_itself c) ∙ ap (λ p. Some p.1) is
  | inr later ↦ ap (λ b. cond b (Some e.1) (find bytes_cmp c es)) (other later _ refl) ∙ listed_found c es v (and_second _ _ rising) later
]
  where
    other : Contains es (c, v) → (b : Bool) → eq_by_cmp bytes_cmp c e.0 ≡ b → eq_by_cmp bytes_cmp c e.0 ≡ false
    other later true tie = absurd (not_both (bytes_cmp c c) (subst (λ x. T (is_lt (bytes_cmp x c))) (sym (tied_name c e.0 tie)) (below_each e.0 c v es (and_first _ _ rising) later)) (name_itself c))
    other later false tie = tie

-- a row whose pairs are all among those of another is the other's part in its columns
pub part_is : (C : Names) (k r : Row) → IsOver C k → AreAmong (map.entries k) (map.entries r) → k ≡ restrict C r
unfolding cut
part_is C k r over among = same_row k (cut C r) (λ c. column c (set.contains C c) refl ∙ sym (at-cut C r c))
  where
    value : (c : Name) (o : Option Value) → at k c ≡ o → is_some o ≡ true → o ≡ at r c
    value c None is some = absurd (true≢false (sym some))
    value c (Some v) is some = sym (map.get-entries r c ∙ listed_found c (map.entries r) v (map.entries_sorted r) (among (c, v) (found_listed c (map.entries k) v (sym (map.get-entries k c) ∙ is))))

    column : (c : Name) (b : Bool) → set.contains C c ≡ b → at k c ≡ cond (set.contains C c) (at r c) None
    column c true i = value c (at k c) refl (over c ∙ i) ∙ sym (ap (λ b. cond b (at r c) None) i)
    column c false o = no_value (at k c) (over c ∙ o) ∙ sym (ap (λ b. cond b (at r c) None) o)

-- a row with just the names has the columns
pub same_over : (C D : Names) (r : Row) → set.items D ≡ map.keys r → same_names D C ≡ true → IsOver C r
same_over C D r own same c = sym (own_names D r own c) ∙ ap (λ X. set.contains X c) (same_is D C same)

-- a row over the columns is its own part
pub own_part : (C : Names) (r : Row) → IsOver C r → r ≡ restrict C r
own_part C r over = part_is C r r over (λ p there. there)

pub cut_whole : (C : Names) (r : Row) → IsOver C r → r ≡ cut C r
unfolding cut
cut_whole C r over = own_part C r over
