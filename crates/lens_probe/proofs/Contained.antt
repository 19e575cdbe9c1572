-- Whether a view has a row, at each root of a lens.
use Rattle.std.proofs.Common.{◌≡◌, ◌∙◌, ◌&&◌, ◌∷◌, Bool, List, Some, ap, cond, refl, subst, sym, true, false, None, Option, is_some}
use Rattle.plain_values.proofs.Common.{list_any, eq_by_cmp, Contains-append_left, restrict, row_cmp, Row, same_bool}
use Rattle.std.proofs.lemmas.Bool.{and_right}
use Rattle.plain_values.specs.SortedSet as set
use Rattle.plain_values.specs.declared.value.Value.{Value}
use Rattle.lens_specs.specs.Common.{Fits, Lens, Tables, base, select, drop, get, sort_of, view_names, Name, Names, Within, one, drop_get, select_get, Predicate, holds, Rows, has, agree, at, cut, join}
use Rattle.plain_values.specs.declared.join_kind.JoinKind.{JoinKind}
use Rattle.fd_laws.proofs.Common.{names-without, agree-cut, agree_at, at-cut, row_itself, same_row, tied_row, has-those}
use Rattle.lens_laws.proofs.Common.{keys_at, IsOver, find_by, IsTyped, contains_head, parts_fit, get_sort, fits_is_over}
use Rattle.lens_laws.proofs.Asked.{drop_key}
use Rattle.lens_laws.proofs.NodeFinds.{has_part}
use Rattle.lens_laws.proofs.NodeFinds.{has_in_join}
use Rattle.signed_delta.specs.Keys.{HasColumns}
use Rattle.signed_delta.proofs.Looks.{find_by-restrict}
use Rattle.base_index.specs.Held.{State, relation_in}
use Rattle.lens_probe.specs.Looking.{MayFind, MayLook}
use Rattle.view_reading.proofs.Bases.{rows_shown}
use Rattle.lens_probe.proofs.Viewing.{under_drop, under_left, under_right, under_select}

-- ---- a table
pub table_has : (L : Lens) (t : Name) (s : _) (db : Tables) (r : Row) → base t s ≡ L → has (relation_in db t).rows r ≡ has (get L db) r
table_has L t s db r is = ap (λ M. has M r) (rows_shown L t s db is)

-- ---- a selection

select_looks : (P : Predicate) (S : Lens) (st : State) → IsTyped (select P S) → MayLook (select P S) st → MayLook S st
select_looks P S st typed may = (_, under_select P S may.0 st typed may.1)

pub source_of_select : (L S : Lens) (P : Predicate) (st : State) → select P S ≡ L → IsTyped L → MayLook L st → MayLook S st
source_of_select L S P st is typed may = select_looks P S st (subst IsTyped (sym is) typed) (subst (λ M. MayLook M st) (sym is) may)

pub select_fits : (L S : Lens) (P : Predicate) (r : Row) → select P S ≡ L → Fits (sort_of L).columns r → Fits (sort_of S).columns r
select_fits L S P r is = subst (λ M. Fits (sort_of M).columns r) (sym is)

select_has : (P : Predicate) (S : Lens) (db : Tables) (r : Row) → has (get (select P S) db) r ≡ (has (get S db) r && holds P r)
unfolding get select_get
select_has P S db r = has-those (holds P) (get S db) r

and_true : (b c : Bool) → c ≡ true → (b && c) ≡ b
and_true true c e = e
and_true false c e = refl

-- a row that the predicate holds on is there where it is in the source
pub selected_has : (L S : Lens) (P : Predicate) (db : Tables) (r : Row) → select P S ≡ L → holds P r ≡ true → has (get S db) r ≡ has (get L db) r
selected_has L S P db r is shown = sym (and_true _ _ shown) ∙ sym (select_has P S db r) ∙ ap (λ M. has (get M db) r) is

-- and another is not there
pub refused_has : (L S : Lens) (P : Predicate) (db : Tables) (r : Row) → select P S ≡ L → holds P r ≡ false → false ≡ has (get L db) r
refused_has L S P db r is hidden = sym (and_right _ _ hidden) ∙ sym (select_has P S db r) ∙ ap (λ M. has (get M db) r) is

-- ---- a projection

drop_looks : (A : Name) (X : Names) (v : Value) (S : Lens) (st : State) → IsTyped (drop A X v S) → MayLook (drop A X v S) st → MayFind S st X
drop_looks A X v S st typed may =
    let K1 = X ∷ keys_at (drop A X v S) may.0 in
    (K1, under_drop A X v S may.0 st typed may.1, Contains-append_left K1 _ X (contains_head X _))

pub source_of_drop : (L S : Lens) (A : Name) (X : Names) (v : Value) (st : State) → drop A X v S ≡ L → IsTyped L → MayLook L st → MayFind S st X
source_of_drop L S A X v st is typed may = drop_looks A X v S st (subst IsTyped (sym is) typed) (subst (λ M. MayLook M st) (sym is) may)

drop_within : (A : Name) (X : Names) (v : Value) (S : Lens) → IsTyped (drop A X v S) → Within X (view_names (drop A X v S))
drop_within A X v S typed = subst (Within X) (sym (names-without (sort_of S).columns A)) (drop_key A X v S typed)

-- the row has the columns that determine
pub drop_over : (L S : Lens) (A : Name) (X : Names) (v : Value) (r : Row) → drop A X v S ≡ L → IsTyped L → Fits (sort_of L).columns r → HasColumns X r
drop_over L S A X v r is typed fits c i =
    let within = subst (λ M. IsTyped M → Within X (view_names M)) is (drop_within A X v S) typed in
    fits_is_over (sort_of L).columns r fits c ∙ within c i

-- two rows over C agree on it where one is the part of the other
agrees_as_part : (C : Names) (r m : Row) → IsOver C r → agree C r m ≡ eq_by_cmp row_cmp r (cut C m)
agrees_as_part C r m over = same_bool _ _
    (λ same. subst (λ q. eq_by_cmp row_cmp r q ≡ true) (same_row r (cut C m) (λ c. column c (set.contains C c) refl same)) (row_itself r))
    (λ tie. subst (λ q. agree C q m ≡ true) (sym (tied_row r (cut C m) tie)) (agree-cut C m))
  where
    none_there : (o : Option Value) → is_some o ≡ false → o ≡ None
    none_there None e = refl
    none_there (Some v) e = cc

    column : (c : Name) (b : Bool) → set.contains C c ≡ b → agree C r m ≡ true → at r c ≡ at (cut C m) c
    column c true i same = agree_at C r m same c i ∙ sym (ap (λ b. cond b (at m c) None) i) ∙ sym (at-cut C m c)
    column c false o same = none_there (at r c) (over c ∙ o) ∙ sym (ap (λ b. cond b (at m c) None) o) ∙ sym (at-cut C m c)

any_alike : (p q : Row → Bool) (rows : List Row) → ((m : Row) → p m ≡ q m) → list_any p rows ≡ list_any q rows
any_alike p q rows same = ap (λ f. list_any f rows) (λ i m. same m i)

dropped_has : (A : Name) (X : Names) (v : Value) (S : Lens) (db : Tables) (r : Row) (D : Names) (F : Rows) (rows : List Row) → IsTyped (drop A X v S) → Fits (sort_of (drop A X v S)).columns r
    → D ≡ view_names (drop A X v S) → F ≡ find_by X r (get S db) → rows ≡ set.items F → list_any (agree D r) rows ≡ has (get (drop A X v S) db) r
unfolding cut get drop_get
dropped_has A X v S db r D F rows typed fits cols found listed =
    let E = set.difference (view_names S) (one A) in
    let U = (sort_of (drop A X v S)).columns in
    let same : D ≡ E = cols ∙ names-without (sort_of S).columns A in
    let over : IsOver E r = subst (λ C. IsOver C r) (names-without (sort_of S).columns A) (fits_is_over U r fits) in
    ap (λ C. list_any (agree C r) rows) same
    ∙ ap (list_any (agree E r)) (listed ∙ ap set.items (found ∙ sym (find_by-restrict X r (get S db))))
    ∙ any_alike (agree E r) (λ m. eq_by_cmp row_cmp r (cut E m)) _ (λ m. agrees_as_part E r m over)
    ∙ has_part E X (get S db) r (drop_key A X v S typed)

-- one of the rows found agrees with the row where the projection has it
pub drop_has : (L S : Lens) (A : Name) (X : Names) (v : Value) (db : Tables) (r : Row) (D : Names) (F : Rows) (rows : List Row) → drop A X v S ≡ L → IsTyped L → Fits (sort_of L).columns r
    → D ≡ view_names L → F ≡ find_by X r (get S db) → rows ≡ set.items F → list_any (agree D r) rows ≡ has (get L db) r
drop_has L S A X v db r D F rows is typed fits cols found listed =
    dropped_has A X v S db r D F rows (subst IsTyped (sym is) typed) (subst (λ M. Fits (sort_of M).columns r) (sym is) fits) (cols ∙ ap view_names (sym is)) found listed
    ∙ ap (λ M. has (get M db) r) is

-- ---- a join

join_looks_left : (kind : JoinKind) (A B : Lens) (st : State) → IsTyped (join kind A B) → MayLook (join kind A B) st → MayLook A st
join_looks_left kind A B st typed may = (_, under_left kind A B may.0 st typed may.1)

join_looks_right : (kind : JoinKind) (A B : Lens) (st : State) → IsTyped (join kind A B) → MayLook (join kind A B) st → MayLook B st
join_looks_right kind A B st typed may = (_, under_right kind A B may.0 st typed may.1)

pub left_of_join : (kind : JoinKind) (L A B : Lens) (st : State) → join kind A B ≡ L → IsTyped L → MayLook L st → MayLook A st
left_of_join kind L A B st is typed may = join_looks_left kind A B st (subst IsTyped (sym is) typed) (subst (λ M. MayLook M st) (sym is) may)

pub right_of_join : (kind : JoinKind) (L A B : Lens) (st : State) → join kind A B ≡ L → IsTyped L → MayLook L st → MayLook B st
right_of_join kind L A B st is typed may = join_looks_right kind A B st (subst IsTyped (sym is) typed) (subst (λ M. MayLook M st) (sym is) may)

join_parts_fit : (kind : JoinKind) (A B : Lens) (r : Row) → IsTyped (join kind A B) → Fits (sort_of (join kind A B)).columns r → Fits (sort_of A).columns (restrict (view_names A) r) × Fits (sort_of B).columns (restrict (view_names B) r)
unfolding cut
join_parts_fit kind A B r typed fits = parts_fit (sort_of A).columns (sort_of B).columns typed.2.kinds r fits

-- the parts of a row fit the sides
pub left_part_fits : (kind : JoinKind) (L A B : Lens) (r q : Row) (U : Names) → join kind A B ≡ L → IsTyped L → Fits (sort_of L).columns r → U ≡ view_names A → q ≡ restrict U r → Fits (sort_of A).columns q
left_part_fits kind L A B r q U is typed fits cols part =
    subst (Fits (sort_of A).columns) (sym (part ∙ ap (λ C. restrict C r) cols)) (join_parts_fit kind A B r (subst IsTyped (sym is) typed) (subst (λ M. Fits (sort_of M).columns r) (sym is) fits)).0

pub right_part_fits : (kind : JoinKind) (L A B : Lens) (r q : Row) (V : Names) → join kind A B ≡ L → IsTyped L → Fits (sort_of L).columns r → V ≡ view_names B → q ≡ restrict V r → Fits (sort_of B).columns q
right_part_fits kind L A B r q V is typed fits cols part =
    subst (Fits (sort_of B).columns) (sym (part ∙ ap (λ C. restrict C r) cols)) (join_parts_fit kind A B r (subst IsTyped (sym is) typed) (subst (λ M. Fits (sort_of M).columns r) (sym is) fits)).1

join_has_parts : (kind : JoinKind) (A B : Lens) (st : State) (r : Row) → IsTyped (join kind A B) → MayLook (join kind A B) st → Fits (sort_of (join kind A B)).columns r
    → (has (get A st.relations) (restrict (view_names A) r) && has (get B st.relations) (restrict (view_names B) r)) ≡ has (get (join kind A B) st.relations) r
unfolding cut get
join_has_parts kind A B st r typed may fits =
    has_in_join (sort_of A).columns (sort_of B).columns (get A st.relations) (get B st.relations) (get_sort A st.relations typed.0 may.1.tables.0).columns
    (get_sort B st.relations typed.1 may.1.tables.1).columns r fits

-- a row is there where both sides have its part
pub join_has : (kind : JoinKind) (L A B : Lens) (st : State) (r p q : Row) (U V : Names) (b : Bool) → join kind A B ≡ L → IsTyped L → MayLook L st → Fits (sort_of L).columns r → U ≡ view_names A → V ≡ view_names B
    → p ≡ restrict U r → q ≡ restrict V r → true ≡ has (get A st.relations) p → b ≡ has (get B st.relations) q → b ≡ has (get L st.relations) r
join_has kind L A B st r p q U V b is typed may fits left right left_part right_part left_has right_has =
    right_has ∙ ap (λ z. has (get B st.relations) z) (right_part ∙ ap (λ C. restrict C r) right)
    ∙ ap (λ c. c && has (get B st.relations) (restrict (view_names B) r)) (left_has ∙ ap (λ z. has (get A st.relations) z) (left_part ∙ ap (λ C. restrict C r) left))
    ∙ join_has_parts kind A B st r (subst IsTyped (sym is) typed) (subst (λ M. MayLook M st) (sym is) may) (subst (λ M. Fits (sort_of M).columns r) (sym is) fits)
    ∙ ap (λ M. has (get M st.relations) r) is

-- and is not there where the left side lacks it
pub join_lacks : (kind : JoinKind) (L A B : Lens) (st : State) (r p : Row) (U : Names) → join kind A B ≡ L → IsTyped L → MayLook L st → Fits (sort_of L).columns r → U ≡ view_names A → p ≡ restrict U r
    → false ≡ has (get A st.relations) p → false ≡ has (get L st.relations) r
join_lacks kind L A B st r p U is typed may fits left left_part left_has =
    ap (λ c. c && has (get B st.relations) (restrict (view_names B) r)) (left_has ∙ ap (λ z. has (get A st.relations) z) (left_part ∙ ap (λ C. restrict C r) left))
    ∙ join_has_parts kind A B st r (subst IsTyped (sym is) typed) (subst (λ M. MayLook M st) (sym is) may) (subst (λ M. Fits (sort_of M).columns r) (sym is) fits)
    ∙ ap (λ M. has (get M st.relations) r) is
