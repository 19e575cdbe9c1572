-- Lists whose rows, taken as a set, are those that a lens shows.
use Rattle.std.proofs.Common.{◌≡◌, ◌∙◌, ◌∷◌, Bool, List, [], ap, cond, filter, map, refl, subst, sym, true, ◌&&◌, ◌||◌, None}
use Rattle.plain_values.proofs.Common.{list_any, eq_by_cmp, restrict, row_cmp, Row, from_map, in_map}
use Rattle.plain_values.specs.SortedSet as set
use Rattle.plain_values.specs.declared.value.Value.{Value}
use Rattle.plain_values.specs.declared.join_kind.JoinKind.{JoinKind}
use Rattle.lens_specs.specs.Common.{Lens, Tables, drop, get, select, sort_of, view_names, Name, Names, one, drop_get, join_get, select_get, Predicate, holds, mentioned, Rows, has, project, those, cut, join}
use Rattle.fd_laws.proofs.Common.{names-without, from_rest, from_project, from_those, in_project, in_those, same_rel, agree-cut, row_exact, row_itself, row_total, tied_row, subset_is}
use Rattle.lens_laws.proofs.Common.{IsOver, AreOf, IsTyped, PredWithin, get_sort, fits_is_over, mentioned_is}
use Rattle.lens_laws.proofs.Predicates.{sees_from}
use Rattle.row_sets.specs.Joins.{pairs_on}
use Rattle.row_sets.proofs.Natural.{natural_is}
use Rattle.view_reading.specs.Reading.{rows_for}
use Rattle.view_reading.specs.Unfiltered.{passes}
use Rattle.view_reading.proofs.KnownParts.{cut_whole}
use Rattle.view_reading.proofs.Sides.{pairs_pass, tested_first, was_there}

-- ---- lists and sets

-- the list's rows are those of the set
abbrev pub AreListed : List Row → Rows → Type 0
AreListed rows M = set.from_list rows ≡ M

-- whether the list has the row
abbrev pub stands : List Row → Row → Type 0
stands rows r = list_any (eq_by_cmp row_cmp r) rows ≡ true

pub in_list : (rows : List Row) (M : Rows) → AreListed rows M → (r : Row) → has M r ≡ true → stands rows r
in_list rows M is r there = sym (set.contains-from_list row_total rows r) ∙ ap (λ N. has N r) is ∙ there

pub from_list : (rows : List Row) (M : Rows) → AreListed rows M → (r : Row) → stands rows r → has M r ≡ true
from_list rows M is r there = ap (λ N. has N r) (sym is) ∙ set.contains-from_list row_total rows r ∙ there

chosen : (p : Row → Bool) (rows : List Row) (M : Rows) → AreListed rows M → AreListed (filter p rows) (those p M)
chosen p rows M is = set.same_set row_total row_exact _ _ (λ q.
    set.contains-from_list row_total (filter p rows) q ∙ set.list_any-filter row_total row_exact p rows q
    ∙ ap (λ b. b && p q) (sym (set.contains-from_list row_total rows q) ∙ ap (λ N. has N q) is)
    ∙ sym (set.contains-filter row_total row_exact p M q))

-- the parts of the rows of a list are those of the set
pub parts : (C : Names) (rows : List Row) (M : Rows) → AreListed rows M → AreListed (map (restrict C) rows) (project C M)
unfolding cut
parts C rows M is = same_rel _ _
    (λ q i.
    let w = from_map (eq_by_cmp row_cmp) tied_row row_itself (eq_by_cmp row_cmp) tied_row row_itself (restrict C) rows q (sym (set.contains-from_list row_total (map (restrict C) rows) q) ∙ i) in
    ap (has (project C M)) w.2 ∙ in_project C M w.0 (from_list rows M is w.0 w.1))
    (λ q i.
    let w = from_project C M q i in
    set.contains-from_list row_total (map (restrict C) rows) q ∙ ap (λ r. list_any (eq_by_cmp row_cmp r) (map (restrict C) rows)) w.2
    ∙ in_map (eq_by_cmp row_cmp) tied_row row_itself (eq_by_cmp row_cmp) tied_row row_itself (restrict C) rows w.0 (in_list rows M is w.0 w.1))

-- a test that sees only C holds on a row where it holds on its part
parts_of_chosen : (p : Row → Bool) (C : Names) (M : Rows) → ((r : Row) → p (cut C r) ≡ p r) → project C (those p M) ≡ those p (project C M)
parts_of_chosen p C M sees = same_rel _ _
    (λ q i. let w = from_project C (those p M) q i in
    let v = from_those p M w.0 w.1 in
    in_those p (project C M) q (ap (has (project C M)) w.2 ∙ in_project C M w.0 v.0) (ap p w.2 ∙ sees w.0 ∙ v.1))
    (λ q i. let w = from_those p (project C M) q i in
    let v = from_project C M q w.0 in
    ap (has (project C (those p M))) v.2 ∙ in_project C (those p M) v.0 (in_those p M v.0 v.1 (sym (sees v.0) ∙ ap p (sym v.2) ∙ w.1)))

-- without a test all pass
pub all_pass : (rows : List Row) → filter (passes None) rows ≡ rows
all_pass [] = refl
all_pass (r ∷ rows) = ap (λ l. r ∷ l) (all_pass rows)

-- ---- what a lens shows

pub selected_listed : (P : Predicate) (C : Lens) (db : Tables) (rows : List Row) → set.from_list rows ≡ get C db → set.from_list (filter (holds P) rows) ≡ get (select P C) db
unfolding get select_get
selected_listed P C db rows shown = chosen (holds P) rows (get C db) shown

-- the parts of what the source shows
pub dropped_shown : (L C : Lens) (A : Name) (X : Names) (a : Value) (db : Tables) → drop A X a C ≡ L → project (view_names L) (get C db) ≡ get L db
unfolding get drop_get
dropped_shown L C A X a db is =
    ap (λ D. project D (get C db)) (ap view_names (sym is) ∙ names-without (sort_of C).columns A)
    ∙ ap (λ K. get K db) is

pub dropped_listed : (L C : Lens) (A : Name) (X : Names) (a : Value) (db : Tables) (rows : List Row) → drop A X a C ≡ L → set.from_list rows ≡ get C db
    → set.from_list (map (restrict (view_names L)) rows) ≡ get L db
dropped_listed L C A X a db rows is shown = parts (view_names L) rows (get C db) shown ∙ dropped_shown L C A X a db is

-- the columns that a predicate mentions are all shown
pub mentions_shown : (P : Predicate) (L : Lens) → set.is_subset (mentioned P) (view_names L) ≡ true → PredWithin P (view_names L)
mentions_shown P L all c there = subset_is (mentioned P) (view_names L) all c (mentioned_is P c ∙ there)

-- and are shown by the source of a projection too
pub shown_before : (P : Predicate) (L C : Lens) (A : Name) (X : Names) (a : Value) → drop A X a C ≡ L → PredWithin P (view_names L) → PredWithin P (view_names C)
shown_before P L C A X a is within c there =
    (from_rest (view_names C) (one A) c (ap (λ D. set.contains D c) (sym (names-without (sort_of C).columns A) ∙ ap view_names is) ∙ within c there)).0

-- a side that shows all of them is asked for the rows of the selection
pub rows_for_shown : (P : Predicate) (L : Lens) (db : Tables) → set.is_subset (mentioned P) (view_names L) ≡ true → get (select P L) db ≡ rows_for P L db
unfolding get select_get
rows_for_shown P L db all = ap (λ b. cond b (those (holds P) (get L db)) (get L db)) (sym all)

-- the predicate is tested before the column is dropped
pub selected_shown : (P : Predicate) (L C : Lens) (A : Name) (X : Names) (a : Value) (db : Tables) → drop A X a C ≡ L → PredWithin P (view_names L)
    → project (view_names L) (get (select P C) db) ≡ get (select P L) db
unfolding get select_get drop_get
selected_shown P L C A X a db is within =
    let D = view_names L in
    parts_of_chosen (holds P) D (get C db) (λ r. sees_from P D within (cut D r) r (agree-cut D r))
    ∙ ap (λ E. those (holds P) (project E (get C db))) (ap view_names (sym is) ∙ names-without (sort_of C).columns A)
    ∙ ap (λ K. those (holds P) (get K db)) is

pub selected_before : (P : Predicate) (L C : Lens) (A : Name) (X : Names) (a : Value) (db : Tables) (rows : List Row) → drop A X a C ≡ L → PredWithin P (view_names L) → set.from_list rows ≡ get (select P C) db
    → set.from_list (map (restrict (view_names L)) rows) ≡ get (select P L) db
selected_before P L C A X a db rows is within shown = parts (view_names L) rows (get (select P C) db) shown ∙ selected_shown P L C A X a db is within

-- rows over the columns are their own parts
pub own_parts : (C : Names) (M : Rows) → ((r : Row) → has M r ≡ true → IsOver C r) → project C M ≡ M
own_parts C M over = same_rel _ _
    (λ q i.
    let w = from_project C M q i in
    ap (has M) (w.2 ∙ sym (cut_whole C w.0 (over w.0 w.1))) ∙ w.1)
    (λ q i. ap (has (project C M)) (cut_whole C q (over q i)) ∙ in_project C M q i)

-- what a lens shows are its own parts
own_shown : (L : Lens) (db : Tables) → IsTyped L → AreOf L db → project (view_names L) (get L db) ≡ get L db
own_shown L db typed are = own_parts (view_names L) (get L db) (λ r i. fits_is_over (sort_of L).columns r ((get_sort L db typed are).columns r i))

pub whole_listed : (L : Lens) (db : Tables) (rows : List Row) → IsTyped L → AreOf L db → set.from_list rows ≡ get L db → set.from_list (map (restrict (view_names L)) rows) ≡ get L db
whole_listed L db rows typed are shown = parts (view_names L) rows (get L db) shown ∙ own_shown L db typed are

-- and so is what a selection shows of it
own_selected : (P : Predicate) (L : Lens) (db : Tables) → IsTyped L → AreOf L db → project (view_names L) (get (select P L) db) ≡ get (select P L) db
unfolding get select_get
own_selected P L db typed are =
    own_parts (view_names L) (those (holds P) (get L db))
    (λ r i. fits_is_over (sort_of L).columns r ((get_sort L db typed are).columns r (from_those (holds P) (get L db) r i).0))

pub whole_selected : (P : Predicate) (L : Lens) (db : Tables) (rows : List Row) → IsTyped L → AreOf L db → set.from_list rows ≡ get (select P L) db
    → set.from_list (map (restrict (view_names L)) rows) ≡ get (select P L) db
whole_selected P L db rows typed are shown = parts (view_names L) rows (get (select P L) db) shown ∙ own_selected P L db typed are

-- ---- the pairs of a join

-- those that its sides make, where it shows them
abbrev pub pairs_shown : Lens → Lens → Rows → Rows → Rows
pairs_shown A B M N = pairs_on (set.intersection (view_names A) (view_names B)) M N

pub joined_shown : (kind : JoinKind) (L A B : Lens) (db : Tables) → join kind A B ≡ L → IsTyped L → AreOf L db → pairs_shown A B (get A db) (get B db) ≡ get L db
unfolding get join_get
joined_shown kind L A B db is typed are =
    natural_is (sort_of A).columns (sort_of B).columns (get A db) (get B db)
    (get_sort B db (subst IsTyped (sym is) typed).1 (subst (λ K. AreOf K db) (sym is) are).1).columns
    ∙ ap (λ K. get K db) is

-- which are their own parts
pub joined_whole : (kind : JoinKind) (L A B : Lens) (db : Tables) → join kind A B ≡ L → IsTyped L → AreOf L db → project (view_names L) (pairs_shown A B (get A db) (get B db)) ≡ get L db
joined_whole kind L A B db is typed are = ap (project (view_names L)) (joined_shown kind L A B db is typed are) ∙ own_shown L db typed are

-- those on which a predicate holds are a list's rows that pass
pub passed_parts : (P : Predicate) (rows : List Row) (M : Rows) → set.from_list rows ≡ M → set.from_list (filter (holds P) rows) ≡ those (holds P) M
passed_parts P rows M listed = chosen (holds P) rows M listed

-- the predicate is tested on the sides that show all of its columns, and then on the parts of the pairs
pub selected_pairs : (kind : JoinKind) (P : Predicate) (C : Names) (L A B : Lens) (db : Tables) → join kind A B ≡ L → IsTyped L → AreOf L db → PredWithin P C
    → those (holds P) (project C (pairs_shown A B (rows_for P A db) (rows_for P B db))) ≡ project C (get (select P L) db)
unfolding get select_get join_get
selected_pairs kind P C L A B db is typed are within =
    let U = view_names A in
    let V = view_names B in
    let asks_left = set.is_subset (mentioned P) U in
    let asks_right = set.is_subset (mentioned P) V in
    let both : IsTyped (join kind A B) = subst IsTyped (sym is) typed in
    let there : AreOf (join kind A B) db = subst (λ K. AreOf K db) (sym is) are in
    sym (parts_of_chosen (holds P) C (pairs_shown A B (rows_for P A db) (rows_for P B db)) (λ r. sees_from P C within (cut C r) r (agree-cut C r)))
    ∙ ap (λ M. project C (those (holds P) M)) (natural_is (sort_of A).columns (sort_of B).columns (rows_for P A db) (rows_for P B db)
    (λ n i. (get_sort B db both.1 there.1).columns n (was_there (holds P) asks_right (get B db) n i)))
    ∙ ap (project C) (tested_first (holds P) U V (get A db) (get B db) asks_left asks_right (λ all. sees_from P U (mentions_shown P A all)) (λ all. sees_from P V (mentions_shown P B all)))
    ∙ ap (λ K. project C (those (holds P) (get K db))) is

-- where one of them is, the predicate holds on all parts
pub tested_parts : (P : Predicate) (C : Names) (A B : Lens) (db : Tables) → IsTyped B → AreOf B db → PredWithin P C
    → (set.is_subset (mentioned P) (view_names A) || set.is_subset (mentioned P) (view_names B)) ≡ true
    → project C (pairs_shown A B (rows_for P A db) (rows_for P B db)) ≡ those (holds P) (project C (pairs_shown A B (rows_for P A db) (rows_for P B db)))
tested_parts P C A B db typed are within some =
    let U = view_names A in
    let V = view_names B in
    let asks_left = set.is_subset (mentioned P) U in
    let asks_right = set.is_subset (mentioned P) V in
    let pasted = natural_is (sort_of A).columns (sort_of B).columns (rows_for P A db) (rows_for P B db)
    (λ n i. (get_sort B db typed are).columns n (was_there (holds P) asks_right (get B db) n i)) in
    let all = pairs_pass (holds P) U V (get A db) (get B db) asks_left asks_right some (λ is. sees_from P U (mentions_shown P A is)) (λ is. sees_from P V (mentions_shown P B is)) in
    ap (project C) (pasted ∙ sym all ∙ ap (those (holds P)) (sym pasted))
    ∙ parts_of_chosen (holds P) C (pairs_shown A B (rows_for P A db) (rows_for P B db)) (λ r. sees_from P C within (cut C r) r (agree-cut C r))

pub selected_whole : (kind : JoinKind) (P : Predicate) (L A B : Lens) (db : Tables) → join kind A B ≡ L → IsTyped L → AreOf L db → PredWithin P (view_names L)
    → those (holds P) (project (view_names L) (pairs_shown A B (rows_for P A db) (rows_for P B db))) ≡ get (select P L) db
selected_whole kind P L A B db is typed are within = selected_pairs kind P (view_names L) L A B db is typed are within ∙ own_selected P L db typed are
