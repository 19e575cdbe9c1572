-- What a lens shows and a put to it, by its root.
use Rattle.std.proofs.Common.{◌≡◌, ◌∙◌, true, false, List, ap, refl, subst, sym, Some, Ok}
use Rattle.std.specs.FinMap as finmap
use Rattle.plain_values.specs.SortedSet as set
use Rattle.plain_values.specs.declared.value.Value.{Value}
use Rattle.lens_specs.specs.Common.{fits_at, names, without_column, Edge, Meets, Lens, Tables, base, select, drop, rename, get, put, sort_of, view, rows_or_none, Name, Names, one, drop_get, drop_put, rename_get, rename_put, select_get, select_put, Predicate, holds, Relation, Rows, renamed_columns, agree, IsOf, IsOfSort, Sort}
use Rattle.lens_specs.specs.Typing as typing
use Rattle.fd_laws.proofs.Common.{one_is, agree_at, agree_from, at_edge}
use Rattle.lens_laws.proofs.Common.{AreOf, IsTyped, get_after, put_back, drop_law, rename_node_law, select_law, given_is, clash_none}

-- ---- what is shown

same_value : (M N : Relation) → Some M ≡ Some N → M ≡ N
same_value M N e = cc

shown_of_base : (t : Name) (s : Sort) (db : Tables) (M : Relation) → Some M ≡ finmap.get db t → AreOf (base t s) db → M ≡ view (base t s) db
unfolding get
shown_of_base t s db M there a =
    let columns = ap (λ (N : Relation). N.columns) (same_value M a.0 (there ∙ a.1)) ∙ a.2.0 in
    λ i. record { columns = columns i; rows = rows_or_none (there i) }

-- the table is what a lens of it shows
pub shown_table : (L : Lens) (t : Name) (s : Sort) (db : Tables) (M : Relation) → base t s ≡ L → Some M ≡ finmap.get db t → AreOf L db → M ≡ view L db
shown_table L t s db M is there = subst (λ K. AreOf K db → M ≡ view K db) is (shown_of_base t s db M there)

-- the selected rows of what its source shows are what a selection shows
pub shown_selected : (L C : Lens) (P : Predicate) (db : Tables) (M : Relation) → select P C ≡ L → M ≡ view C db → record M { rows = select_get (holds P) M.rows } ≡ view L db
unfolding get
shown_selected L C P db M is shown = ap (λ (N : Relation). record N { rows = select_get (holds P) N.rows }) shown ∙ ap (λ K. view K db) is

-- what its source shows without the column is what a projection shows
pub shown_dropped : (L C : Lens) (A : Name) (X : Names) (a : Value) (db : Tables) (M : Relation) → drop A X a C ≡ L → M ≡ view C db
    → record { columns = without_column M.columns A; rows = drop_get (names M.columns) A M.rows } ≡ view L db
unfolding get
shown_dropped L C A X a db M is shown =
    ap (λ (N : Relation). record { columns = without_column N.columns A; rows = drop_get (names N.columns) A N.rows }) shown ∙ ap (λ K. view K db) is

-- what its source shows with the new name is what a rename shows
pub shown_renamed : (L C : Lens) (A B : Name) (db : Tables) (M : Relation) → rename A B C ≡ L → M ≡ view C db
    → record { columns = renamed_columns A B M.columns; rows = rename_get A B M.rows } ≡ view L db
unfolding get
shown_renamed L C A B db M is shown = ap (λ (N : Relation). record { columns = renamed_columns A B N.columns; rows = rename_get A B N.rows }) shown ∙ ap (λ K. view K db) is

-- ---- the source of a node after a put

-- these rows over the columns of the lens
abbrev pub over : Lens → Rows → Relation
over L rows = record { columns = (sort_of L).columns; rows = rows }

-- the rows of its source after a put of a selection
abbrev pub under_selected : Predicate → Lens → Rows → Rows → Rows
under_selected P C N M = select_put (sort_of C).tree (holds P) N M

pub source_selected : (C : Lens) (P : Predicate) (N : Rows) (M after : Relation) (T : List Edge) (s : Sort) → IsTyped C → typing.sort C ≡ Ok s → T ≡ s.tree → M.columns ≡ (sort_of C).columns
    → after ≡ record M { rows = select_put T (holds P) N M.rows } → after ≡ over C (under_selected P C N M.rows)
source_selected C P N M after T s typed given tree columns is =
    let trees = tree ∙ ap (λ (k : Sort). k.tree) (given_is C s typed given) in
    is ∙ (λ i. record { columns = columns i; rows = select_put (trees i) (holds P) N M.rows })

pub selected_is_of_sort : (C : Lens) (P : Predicate) (N M : Rows) → IsTyped (select P C) → IsOf M (sort_of C) → IsOf N (sort_of (select P C)) → IsOfSort (over C (under_selected P C N M)) (sort_of C)
selected_is_of_sort C P N M typed of_source of_view = (refl, (select_law P C typed).put_sort N M of_source of_view)

pub source_dropped : (C : Lens) (A : Name) (X : Names) (a : Value) (N : Rows) (M after : Relation) → M.columns ≡ (sort_of C).columns
    → after ≡ record M { rows = drop_put A X a N M.rows } → after ≡ over C (drop_put A X a N M.rows)
source_dropped C A X a N M after columns is = is ∙ (λ i. record { columns = columns i; rows = drop_put A X a N M.rows })

pub dropped_is_of_sort : (C : Lens) (A : Name) (X : Names) (a : Value) (N M : Rows) → IsTyped (drop A X a C) → IsOf M (sort_of C) → IsOf N (sort_of (drop A X a C)) → IsOfSort (over C (drop_put A X a N M)) (sort_of C)
dropped_is_of_sort C A X a N M typed of_source of_view = (refl, (drop_law A X a C typed).put_sort N M of_source of_view)

pub source_renamed : (C : Lens) (A B : Name) (N : Rows) (M after : Relation) → M.columns ≡ (sort_of C).columns → after ≡ record M { rows = rename_put A B N } → after ≡ over C (rename_put A B N)
source_renamed C A B N M after columns is = is ∙ (λ i. record { columns = columns i; rows = rename_put A B N })

pub renamed_is_of_sort : (C : Lens) (A B : Name) (N M : Rows) → IsTyped (rename A B C) → IsOf M (sort_of C) → IsOf N (sort_of (rename A B C)) → IsOfSort (over C (rename_put A B N)) (sort_of C)
renamed_is_of_sort C A B N M typed of_source of_view = (refl, (rename_node_law A B C typed).put_sort N M of_source of_view)

-- ---- what a put to a projection asks

module _ (C : Lens) (A : Name) (X : Names) (a : Value) (typed : IsTyped (drop A X a C)) where
  -- the default fits the column
  pub column_fits : (M : Relation) → M.columns ≡ (sort_of C).columns → fits_at (Some a) (finmap.get M.columns A) ≡ true
  column_fits M columns = ap (λ U. fits_at (Some a) (finmap.get U A)) columns ∙ typed.1.column

  -- the column is not among those that determine it
  pub column_apart : set.contains X A ≡ false
  column_apart = ap (λ Y. set.contains Y A) (sym typed.1.left) ∙ at_edge (λ e. set.contains e.left A ≡ false) (sort_of C).tree typed.1.from typed.1.among typed.1.lefts

  in_right : (c : Name) → set.contains (one A) c ≡ true → set.contains typed.1.from.right c ≡ true
  in_right c i = ap (set.contains typed.1.from.right) (one_is A c i) ∙ typed.1.right

  -- rows of the source's sort that agree on the columns that determine it agree on the column
  pub determined : (M : Rows) → IsOf M (sort_of C) → Meets M X (one A)
  determined M of_sort r s there there' alike =
      let met = at_edge (λ e. Meets M e.left e.right) (sort_of C).tree typed.1.from typed.1.among (clash_none (sort_of C).tree M of_sort.clash) in
      let right = met r s there there' (ap (λ Y. agree Y r s) typed.1.left ∙ alike) in
      agree_from (one A) r s (λ c i. agree_at typed.1.from.right r s right c (in_right c i))

-- ---- the tables after a put

pub put_table : (L : Lens) (t : Name) (s : Sort) (db : Tables) (V : Relation) → base t s ≡ L → IsOfSort V (sort_of L) → finmap.insert db t V ≡ put L V.rows db
unfolding put
put_table L t s db V is = subst (λ K. IsOfSort V (sort_of K) → finmap.insert db t V ≡ put K V.rows db) is (λ o i. finmap.insert db t (record { columns = o.0 i; rows = V.rows }))

pub put_selected : (L C : Lens) (P : Predicate) (db : Tables) (N S : Rows) (M : Relation) → select P C ≡ L → M ≡ view C db → S ≡ select_put (sort_of C).tree (holds P) N M.rows → put C S db ≡ put L N db
unfolding put
put_selected L C P db N S M is shown rows =
    ap (λ K. put C K db) (rows ∙ ap (λ (K : Relation). select_put (sort_of C).tree (holds P) N K.rows) shown) ∙ ap (λ K. put K N db) is

pub put_dropped : (L C : Lens) (A : Name) (X : Names) (a : Value) (db : Tables) (N S : Rows) (M : Relation) → drop A X a C ≡ L → M ≡ view C db → S ≡ drop_put A X a N M.rows → put C S db ≡ put L N db
unfolding put
put_dropped L C A X a db N S M is shown rows =
    ap (λ K. put C K db) (rows ∙ ap (λ (K : Relation). drop_put A X a N K.rows) shown) ∙ ap (λ K. put K N db) is

pub put_renamed : (L C : Lens) (A B : Name) (db : Tables) (N S : Rows) → rename A B C ≡ L → S ≡ rename_put A B N → put C S db ≡ put L N db
unfolding put
put_renamed L C A B db N S is rows = ap (λ K. put C K db) rows ∙ ap (λ K. put K N db) is

-- the laws of the tables after a put
module _ (after : Tables) (L : Lens) (N : Rows) (db : Tables) (typed : IsTyped L) (are : AreOf L db) (is : after ≡ put L N db) where
  pub read_again : IsOf N (sort_of L) → get L after ≡ N
  read_again of_sort = ap (get L) is ∙ (get_after L db typed are N of_sort).1

  pub unchanged : N ≡ get L db → after ≡ db
  unchanged shown = is ∙ ap (λ K. put L K db) shown ∙ put_back L db typed are

  pub of_their_sorts : IsOf N (sort_of L) → AreOf L after
  of_their_sorts of_sort = subst (AreOf L) (sym is) (get_after L db typed are N of_sort).0
