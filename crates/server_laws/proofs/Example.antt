-- A state with a table and a drop of a selection of it, and a put that changes it: the premises of the laws can be met.
use Rattle.std.proofs.Common.{◌≡◌, ℕ, true, false, cond, not, ◌||◌, ◌&&◌, List, [], ◌∷◌, Option, Some, None, option_map, is_some, Ok, Err, refl, sym, ap, subst, ◌∙◌, codes, pos, nat_le, Bool, Result, length}
use Rattle.plain_values.proofs.Common.{false_from_ne_true, find, eq_by_cmp, nil_from_length, bytes_cmp, row_cmp, Row, absurd_false, fits_same, fits_cond, int_fits, or_no, entries-from_entries, IsStrictlySortedBy}
use Rattle.std.specs.FinMap as finmap
use Rattle.std.specs.FinMap.Entries as listed
use Rattle.plain_values.specs.SortedSet as set
use Rattle.plain_values.specs.declared.value.Kind.{Kind}
use Rattle.plain_values.specs.declared.value.Kind.TheVariants as kind
use Rattle.plain_values.specs.declared.value.Value.TheVariants.{Int}
use Rattle.fd_laws.proofs.Common.{name_total, name_itself, from_those, row_total, tied_row, row_itself, name_exact, names-get, tied_name, one_itself, from_project, agree_itself, subset_from}
use Rattle.lens_laws.proofs.Common.{none_clash, none_off}
use Rattle.lens_specs.specs.Common.{Name, Columns, Fits, Rows, Relation, has, gt, compare, Predicate, holds, mentions, Refusal, unknown_column, or_else, when, too_large, tables_limit, views_limit, unknown_name, unlike_kinds, unsteady, outputs, tree_of, sort, table_sort, select_fault, unless_refused, select_get, Lens, select, select_sort, sort_of, get, rows_or_none, table as rows_of_table, compared, is_like, predicate_kind, source_mentions_output, or_name, columns_limit, one, same_names, agree, fits_at, names, least_outside, without_column, those, Edge, MeetsTree, TreeForm, Sort, kind_clash, drop_get, drop, drop_sort, view_names, tree_or_none, is_determined, drop_fault, table_sort_with, no_such_dependency, and_then}
use Rattle.lens_specs.specs.Refusal.{unless as or_unlike}
use Rattle.grammar_specs.specs.Common.{Definition, table, view, named, Expr}
use Rattle.grammar_specs.specs.Faults as faults
use Rattle.grammar_laws.specs.Reading.{reading}
use Rattle.server_specs.specs.Common.{Catalogue, catalogue, sort_with, table_lens, is_table_of, with_definition, with_lens, is_taken, count_named, view_count, unless_full, where_sorted, lens_named, over, where_typed, lens_in, where_lensed, judged, State, fresh, with_defined, Valid}
use Rattle.catalog_specs.specs.Judging.{name_taken, table_count}
use Rattle.server_laws.proofs.Puts.{accepted_where}
use Rattle.server_laws.proofs.Taken.{judged_ok, get-new, get-other}
use Rattle.server_laws.proofs.Valid.{fresh_is_valid, known_after, valid_taken}
use Rattle.server_laws.specs.Answers.{IsAccepted}
use Rattle.server_laws.specs.PutLaws.{AllFit, IsPut, put_set}
use Rattle.grammar_specs.specs.Meaning as meaning
use Rattle.server_laws.specs.Witness.{DropsCanChange}
use Rattle.fd_laws.proofs.Columns.{get-without}
use Rattle.server_laws.proofs.OneEdge.{a, b, e, other, b_alone, items_one, form}

-- ---- the definitions

abbrev t : Name
t = codes "t"

abbrev pub v : Name
v = codes "v"

abbrev listing : List (Name × Kind)
listing = (a, kind.Int) ∷ (b, kind.Int) ∷ []

abbrev U : Columns
U = finmap.from_entries listing

-- the columns without b
abbrev pub rest : List (Name × Kind)
rest = (a, kind.Int) ∷ []

abbrev pub W : Columns
W = finmap.from_entries rest

abbrev P : Predicate
P = compare a gt (Int (pos 0)) ∷ []

abbrev first_text : List ℕ
first_text = codes "table t (a int, b int) with a -> b"

abbrev second_text : List ℕ
second_text = codes "view v = drop b determined by (a, 0) from (select from t where a > 0)"

abbrev first : Definition
first = table t U (e ∷ []) []

abbrev expr : Expr
expr = meaning.drop b (one a) (Int (pos 0)) (meaning.select P (named t))

abbrev second : Definition
second = view v expr

column : finmap.get U a ≡ Some kind.Int
column = finmap.get-from_entries name_total listing a

dropped : finmap.get U b ≡ Some kind.Int
dropped = finmap.get-from_entries name_total listing b

two_columns : finmap.len U ≡ 2
unfolding IsStrictlySortedBy
two_columns = finmap.len-entries U ∙ ap length (entries-from_entries bytes_cmp name_total listing ((refl, tt), (tt, tt)))

pub one_entry : finmap.entries W ≡ rest
unfolding IsStrictlySortedBy
one_entry = entries-from_entries bytes_cmp name_total rest (tt, tt)

-- at a column that is a's, b's or neither
rest_by : (x y : Bool) → (x ≡ true → y ≡ true → ⊥) → cond y None (cond x (Some kind.Int) (cond y (Some kind.Int) None)) ≡ cond x (Some kind.Int) None
rest_by true true h = absurd (h refl refl)
rest_by true false h = refl
rest_by false true h = refl
rest_by false false h = refl

pub rest_is : without_column U b ≡ W
rest_is = finmap.same_map name_total name_exact _ _ (λ c. get-without U b c ∙ ap (cond (eq_by_cmp bytes_cmp c b) None) (finmap.get-from_entries name_total listing c)
    ∙ rest_by (eq_by_cmp bytes_cmp c a) (eq_by_cmp bytes_cmp c b) (λ i j. other (sym (tied_name c a i) ∙ tied_name c b j)) ∙ sym (finmap.get-from_entries name_total rest c))

first_says : reading first_text ≡ Ok first
first_says = ap (λ n. cond (nat_le n 64) (Ok first) (Err (faults.too_large faults.columns))) two_columns

second_says : reading second_text ≡ Ok second
second_says = refl

-- ---- the table is taken

abbrev none : Catalogue
none = finmap.empty

abbrev S : Sort
S = sort_with U (e ∷ []) []

abbrev T : Lens
T = table_lens t U (e ∷ []) []

abbrev pub V : Lens
V = drop b (one a) (Int (pos 0)) (select P T)

-- the catalogue of the table
abbrev known : Catalogue
known = finmap.insert none t T

no_entries : finmap.entries none ≡ []
no_entries = nil_from_length (finmap.entries none) (sym (finmap.len-entries none) ∙ finmap.len-empty bytes_cmp Lens)

no_tables : table_count none ≡ 0
no_tables = ap (count_named is_table_of) no_entries

is_free : (name : Name) → is_taken none name ≡ false
is_free name = ap is_some (finmap.get-empty bytes_cmp name)

inside : (c : Name) → finmap.get U c ≡ Some kind.Int → least_outside (one c) (names U) ≡ None
inside c h = ap (find (λ n. not (set.contains (names U) n))) (items_one c) ∙ ap (λ s. cond (not s) (Some c) None) (names-get U c ∙ ap is_some h)

-- the sort of the table, from what is unknown in its dependency, and from its tree form
abbrev sort_from : Option Name → Option Name → TreeForm → Result Sort Refusal
sort_from x y f = elim (or_else (or_else (option_map unknown_column x) (or_else (option_map unknown_column y) None)) None) as (λ _. Result Sort Refusal) [ Some r ↦ Err r | None ↦ table_sort_with U (e ∷ []) [] f ]

-- the sort of the table, with this tree form
abbrev sort_as : TreeForm → Result Sort Refusal
sort_as f = Ok (record { columns = U; predicate = []; tree = tree_or_none f })

table_sorted : table_sort U (e ∷ []) [] ≡ Ok S
unfolding table_sort
table_sorted = ap (λ x. sort_from x (least_outside (one b) (names U)) (tree_of (e ∷ []))) (inside a column)
    ∙ ap (λ y. sort_from None y (tree_of (e ∷ []))) (inside b dropped)
    ∙ ap (table_sort_with U (e ∷ []) []) form
    ∙ ap (λ n. unless_refused (or_else (when (not (nat_le n 64)) (too_large columns_limit)) None) (record { columns = U; predicate = []; tree = e ∷ [] })) two_columns
    ∙ ap sort_as (sym form)

first_taken : judged none (reading first_text) ≡ Ok first
first_taken = ap (judged none) first_says
    ∙ ap (λ x. cond x (Err (name_taken t)) (where_sorted (table_sort U (e ∷ []) []) none first)) (is_free t)
    ∙ ap (λ r. where_sorted r none first) table_sorted
    ∙ ap (λ n. unless_full (nat_le 64 n) tables_limit first) no_tables

-- ---- the view is taken

both : (x y : Option Refusal) → x ≡ None → y ≡ None → or_else x y ≡ None
both x y p q = ap (λ o. or_else o y) p ∙ q

nothing_mentioned : (ns : List Name) → find (mentions []) ns ≡ None
nothing_mentioned [] = refl
nothing_mentioned (n ∷ ns) = nothing_mentioned ns

selected : select_fault 2 S P ≡ None
selected =
    both (option_map unknown_column (unknown_name U P)) _ (ap (λ o. option_map unknown_column (cond (not (is_some o)) (Some a) None)) column)
    (both (option_map predicate_kind (unlike_kinds U P)) _ (ap (λ o. option_map predicate_kind (or_name (or_unlike (is_like (Int (pos 0)) o) a) None)) column
    ∙ ap (λ x. option_map predicate_kind (or_name (or_unlike x a) None)) (int_fits (pos 0)))
    (both (option_map source_mentions_output (unsteady [] S.tree)) _ (ap (option_map source_mentions_output) (nothing_mentioned (set.items (outputs S.tree))))
    (ap (λ n. or_else (when (not (nat_le n 64)) (too_large columns_limit)) None) two_columns)))

same_one : same_names (one a) (one a) ≡ true
same_one = ap (λ s. s && s) (subset_from (one a) (one a) (λ c i. i))

determined : is_determined (one a) b S.tree ≡ true
determined = ap (λ f. is_determined (one a) b (tree_or_none f)) form
    ∙ ap (λ s. ((s && set.contains (one b) b) || false) && not (set.contains (one a) b || false)) same_one
    ∙ ap (λ s. (s || false) && not (set.contains (one a) b || false)) (one_itself b)
    ∙ ap (λ s. not (s || false)) b_alone

rest_column : finmap.len (without_column U b) ≡ 1
rest_column = ap finmap.len rest_is ∙ finmap.len-entries W ∙ ap length one_entry

drops : drop_fault 3 (select_sort S P) b (one a) (Int (pos 0)) ≡ None
drops =
    both (when (not (is_some (finmap.get U b))) (unknown_column b)) _ (ap (λ o. when (not (is_some o)) (unknown_column b)) dropped)
    (both (option_map unknown_column (least_outside (one a) (names U))) _ (ap (option_map unknown_column) (inside a column))
    (both (when (not (fits_at (Some (Int (pos 0))) (finmap.get U b))) (kind_clash b)) _
    (ap (λ o. when (not (fits_at (Some (Int (pos 0))) o)) (kind_clash b)) dropped ∙ ap (λ x. when (not x) (kind_clash b)) (int_fits (pos 0)))
    (both (when (not (is_determined (one a) b S.tree)) (no_such_dependency b)) _ (ap (λ x. when (not x) (no_such_dependency b)) determined)
    (ap (λ n. or_else (when (not (nat_le n 64)) (too_large columns_limit)) None) rest_column))))

has_sort : sort V ≡ Ok (sort_of V)
unfolding sort
has_sort = ap (λ o. and_then (unless_refused o (select_sort S P)) (λ s. unless_refused (drop_fault 3 s b (one a) (Int (pos 0))) (drop_sort s b))) selected
    ∙ ap (λ o. unless_refused o (drop_sort (select_sort S P) b)) drops

selection_sort : sort (select P T) ≡ Ok (select_sort S P)
unfolding sort
selection_sort = ap (λ o. unless_refused o (select_sort S P)) selected

no_views : view_count known ≡ 0
no_views = ap (count_named (λ name lens. not (is_table_of name lens))) (finmap.entries-insert name_total none t T ∙ ap (listed.put bytes_cmp t T) no_entries)

second_free : is_taken known v ≡ false
second_free = ap is_some (get-other none t T v refl) ∙ is_free v

second_taken_of : judged known (Ok second) ≡ Ok second
second_taken_of =
    ap (λ x. cond x (Err (name_taken v)) (where_lensed (lens_in known expr) known second)) second_free
    ∙ ap (λ o. where_lensed (over (drop b (one a) (Int (pos 0))) (over (select P) (lens_named t o))) known second) (get-new none t T)
    ∙ ap (λ r. where_lensed (over (drop b (one a) (Int (pos 0))) (where_typed (select P T) r)) known second) selection_sort
    ∙ ap (λ r. where_lensed (where_typed V r) known second) has_sort
    ∙ ap (λ n. unless_full (nat_le 256 n) views_limit second) no_views

-- ---- the state

abbrev with_table : State
with_table = with_defined first_text first fresh

abbrev pub state : State
state = with_defined second_text second with_table

known_is : catalogue with_table.texts ≡ known
known_is = known_after fresh first_text first first_taken

second_taken : judged (catalogue with_table.texts) (reading second_text) ≡ Ok second
second_taken = ap (λ k. judged k (reading second_text)) known_is
    ∙ ap (judged known) second_says ∙ second_taken_of

with_table_valid : Valid with_table
with_table_valid = valid_taken fresh first_text first fresh_is_valid first_taken (judged_ok none (reading first_text) first first_taken).1

pub valid : Valid state
valid = valid_taken with_table second_text second with_table_valid second_taken (judged_ok (catalogue with_table.texts) (reading second_text) second second_taken).1

pub known_view : finmap.get (catalogue state.texts) v ≡ Some V
known_view =
    ap (λ k. finmap.get k v) (known_after with_table second_text second second_taken ∙ ap (with_definition (Ok second)) known_is
    ∙ ap (λ o. with_lens v (option_map (drop b (one a) (Int (pos 0))) (option_map (select P) o)) known) (get-new none t T))
    ∙ get-new known v V

-- ---- the put

abbrev pub row : Row
row = finmap.from_entries ((a, Int (pos 1)) ∷ [])

abbrev pub N : Rows
N = set.from_list (row ∷ [])

pub there : has N row ≡ true
there = set.contains-from_list row_total (row ∷ []) row ∙ ap (λ x. x || false) (row_itself row)

pub only : (r : Row) → has N r ≡ true → r ≡ row
only r i = tied_row r row (or_no (eq_by_cmp row_cmp r row) (sym (set.contains-from_list row_total (row ∷ []) r) ∙ i))

row_fits : Fits W row
row_fits c = fits_same _ _ _ _ (sym (finmap.get-from_entries name_total ((a, Int (pos 1)) ∷ []) c)) (sym (finmap.get-from_entries name_total rest c))
    (fits_cond (eq_by_cmp bytes_cmp c a) (Some (Int (pos 1))) None (Some kind.Int) None (λ _. int_fits (pos 1)) (λ _. refl))

pub all_fit : AllFit (without_column U b) N
all_fit r i = subst (λ C. Fits C r) (sym rest_is) (subst (Fits W) (sym (only r i)) row_fits)

row_holds : holds P row ≡ true
row_holds = ap (λ o. compared gt o (Some (Int (pos 0))) && true) (finmap.get-from_entries name_total ((a, Int (pos 1)) ∷ []) a)

rows_put : IsPut state v V N
rows_put = record { valid = valid; lens = known_view; rows = all_fit }

-- one row alone meets every tree
meets_alone : (F : List Edge) → MeetsTree N F
meets_alone [] = tt
meets_alone (k ∷ ks) = (
  λ r s i j h. subst (λ q. agree k.right q s ≡ true) (sym (only r i)) (subst (λ q. agree k.right row q ≡ true) (sym (only s j)) (agree_itself k.right row)),
  meets_alone ks,
)

pub accepted : IsAccepted (put_set N V state).0
accepted = (accepted_where V N state all_fit).1
    (record { columns = all_fit; off = none_off P N (λ r i. ap (holds P) (only r i) ∙ row_holds); clash = none_clash (sort_of V).tree N (meets_alone (sort_of V).tree) })

no_rows : (r : Row) → has (rows_of_table state.tables t) r ≡ false
no_rows r =
    ap (λ o. has (rows_or_none o) r) (finmap.get-insert name_total finmap.empty t (record { columns = U; rows = set.empty }) t
    ∙ ap (λ x. cond x (Some (record { columns = U; rows = set.empty })) (finmap.get (finmap.empty {X = Relation} {R = bytes_cmp}) t)) (name_itself t))
    ∙ set.contains-empty row_cmp r

-- the view has no row
pub is_new : (r : Row) → has (get V state.tables) r ≡ false
unfolding get select_get drop_get
is_new r = false_from_ne_true _ (λ i.
    let w = from_project (set.difference (view_names (select P T)) (one b)) (those (holds P) (rows_of_table state.tables t)) r i in
    absurd_false _ (from_those (holds P) (rows_of_table state.tables t) w.0 w.1).0 (no_rows w.0))

pub drops_can_change : DropsCanChange
drops_can_change = record {
  change = record { state = state; name = v; lens = V; rows = N; put = rows_put; view = λ name. refl; accepted = accepted; row = row; there = there; new = is_new row };
  column = b;
  by = one a;
  fill = Int (pos 0);
  predicate = P;
  table = t;
  sort = S;
  drops = refl;
}
