-- The laws of puts over valid states.
use Rattle.std.proofs.Common.{◌≡◌, Bool, true, false, cond, List, [], ◌∷◌, Option, Some, None, Result, Ok, Err, ◌⊎◌, inl, inr, refl, sym, ap, subst, ◌∙◌, ◌↔◌}
use Rattle.plain_values.proofs.Common.{cases_Bool, or_cases, true≢false, eq_by_cmp, row_cmp, Row, bytes_cmp, in_cons}
use Rattle.std.specs.FinMap as finmap
use Rattle.lens_laws.proofs.Common.{off_none, none_off, clash_is, get_sort, get_after, put_back, put_leaves, IsOff, AreDiffs, AreOf}
use Rattle.plain_values.specs.SortedSet as set
use Rattle.lens_laws.proofs.Least.{off_is}
use Rattle.fd_laws.proofs.Common.{name_total, name_exact, name_itself, tied_name, one_is}
use Rattle.lens_specs.specs.Common.{Name, is_among, Rows, Predicate, holds, Edge, Sort, violating_row, Clash, violating_pair, IsOf, Tables, Lens, base, select, drop, rename, sort_of, tables_of, table, rows_or_none, get, put, TableDelta, diff, is_empty, differences, changes, join}
use Rattle.server_specs.specs.Common.{catalogue, State, EditRefusal, Answer, changed, clash, off_predicate, unless_clash, unless_off, accept, settled, Valid}
use Rattle.server_laws.proofs.Asked.{passes_sort}
use Rattle.server_laws.proofs.Clashes.{clash_of_first, least_is_one}
use Rattle.server_laws.proofs.Differences.{empty_same, none_differ}
use Rattle.server_laws.proofs.Stored.{IsHere, lens_here}
use Rattle.server_laws.specs.Answers.{IsAccepted}
use Rattle.server_laws.specs.PutLaws.{AllFit, IsFirstClashOf, put_set}

-- ---- tables that a put does not change

-- a table of its sort is made of its rows
own_table : (s : Sort) (db : Tables) (t : Name) → AreOf (base t s) db → finmap.get db t ≡ Some (record { columns = s.columns; rows = table db t })
own_table s db t a = a.1 ∙ (λ i. Some (record { columns = a.2.0 i; rows = rows_or_none (sym a.1 i) }))

-- a table of the lens with the same rows is the same
pub same_table : (L : Lens) (old new : Tables) → AreOf L old → AreOf L new → (t : Name) → set.contains (tables_of L) t ≡ true → table old t ≡ table new t → finmap.get new t ≡ finmap.get old t
unfolding tables_of
same_table (base u s) old new a b t i h =
    let here : table old u ≡ table new u → finmap.get new u ≡ finmap.get old u = λ k. own_table s new u b ∙ ap (λ N. Some (record { columns = s.columns; rows = N })) (sym k) ∙ sym (own_table s old u a) in
    subst (λ n. table old n ≡ table new n → finmap.get new n ≡ finmap.get old n) (sym (one_is u t i)) here h
same_table (select P C) old new a b t i h = same_table C old new a b t i h
same_table (drop A X v C) old new a b t i h = same_table C old new a b t i h
same_table (rename A B C) old new a b t i h = same_table C old new a b t i h
same_table (join kind A B) old new a b t i h = elim (or_cases _ _ (sym (set.contains-union name_total (tables_of A) (tables_of B) t) ∙ i)) [
  | inl j ↦ same_table A old new a.0 b.0 t j h
  | inr j ↦ same_table B old new a.1 b.1 t j h
]

emptied : {A : Type 0} (b : Bool) (x : A) (xs : List A) → cond b xs (x ∷ xs) ≡ [] → (b ≡ true) × (xs ≡ [])
emptied true x xs e = (refl, e)
emptied false x xs e = cc

-- where there are no differences, the rows are the same
none_changed : (ts : List Name) (old new : Tables) → differences ts old new ≡ [] → (t : Name) → is_among t ts ≡ true → table old t ≡ table new t
none_changed [] old new e t i = absurd (true≢false (sym i))
none_changed (u ∷ ts) old new e t i =
    let w = emptied (is_empty (diff (table old u) (table new u))) (record { table = u; delta = diff (table old u) (table new u) }) (differences ts old new) e in
    elim (in_cons (eq_by_cmp bytes_cmp) tied_name name_itself t u ts i) [
      | inl is ↦ subst (λ n. table old n ≡ table new n) (sym is) (empty_same (table old u) (table new u) w.0)
      | inr j ↦ none_changed ts old new w.1 t j
    ]

-- a put with no changes leaves the tables
pub unchanged_put : (L : Lens) (N : Rows) (db : Tables) → AreOf L db → AreOf L (put L N db) → changes L N db ≡ [] → put L N db ≡ db
unchanged_put L N db a b e = finmap.same_map name_total name_exact (put L N db) db (λ q. elim (cases_Bool (set.contains (tables_of L) q)) [
  | inl i ↦ same_table L db (put L N db) a b q i (none_changed (set.items (tables_of L)) db (put L N db) e q (sym (set.contains-items (tables_of L) q) ∙ i))
  | inr o ↦ put_leaves L N db q o
])

-- ---- what is accepted

pub accepts : (db : Tables) (ds : List TableDelta) (s : State) → IsAccepted (accept db ds s).0
accepts db [] s = tt
accepts db (d ∷ ds) s = tt

-- what becomes of a put, by the first row that is off and by the first clash
abbrev by_tests : Option Row → Option Clash → Lens → Rows → State → Answer × State
by_tests o c L N s = settled (unless_off o (unless_clash c N)) L s

passes : (o : Option Row) (c : Option Clash) (L : Lens) (N : Rows) (s : State) → IsAccepted (by_tests o c L N s).0 → (o ≡ None) × (c ≡ None)
passes None None L N s h = (refl, refl)
passes None (Some c) L N s h = absurd h
passes (Some r) c L N s h = absurd h

-- where nothing is refused, a put is `accept`
pub put_is_accept : (N : Rows) (L : Lens) (s : State) → violating_row (sort_of L).predicate N ≡ None → violating_pair (sort_of L).tree N ≡ None → put_set N L s ≡ accept (put L N s.tables) (changes L N s.tables) s
put_is_accept N L s none met = ap (λ r. settled r L s) (passes_sort (sort_of L) N none met)

-- an accepted put, as `accept`
pub accepted_is : (L : Lens) (N : Rows) (s : State) → IsAccepted (put_set N L s).0 → put_set N L s ≡ accept (put L N s.tables) (changes L N s.tables) s
accepted_is L N s h = let w = passes (violating_row (sort_of L).predicate N) (violating_pair (sort_of L).tree N) L N s h in put_is_accept N L s w.0 w.1

typed_of : (L : Lens) (N : Rows) (s : State) → AllFit (sort_of L).columns N → IsAccepted (put_set N L s).0 → IsOf N (sort_of L)
typed_of L N s fits h =
    let w = passes (violating_row (sort_of L).predicate N) (violating_pair (sort_of L).tree N) L N s h in
    record { columns = fits; off = w.0; clash = w.1 }

pub accepted_where : (L : Lens) (N : Rows) (s : State) → AllFit (sort_of L).columns N → IsAccepted (put_set N L s).0 ↔ IsOf N (sort_of L)
accepted_where L N s fits = (
  typed_of L N s fits,
  λ n. subst (λ r. IsAccepted r.0) (sym (put_is_accept N L s n.off n.clash)) (accepts (put L N s.tables) (changes L N s.tables) s),
)

-- an answer to a put
abbrev pub IsSettled : State → Answer × State → Type 0
IsSettled s r = IsAccepted r.0 ⊎ (((row : Row) × (r ≡ (off_predicate row, s))) ⊎ ((edge : Edge) × (first : Row) × (second : Row) × (r ≡ (clash edge first second, s))))

either_case : (o : Option Row) (c : Option Clash) (L : Lens) (N : Rows) (s : State) → IsSettled s (by_tests o c L N s)
either_case None None L N s = inl (accepts (put L N s.tables) (changes L N s.tables) s)
either_case None (Some c) L N s = inr (inr (c.edge, c.first, c.second, refl))
either_case (Some row) c L N s = inr (inl (row, refl))

pub accepted_or_refused : (L : Lens) (N : Rows) (s : State) → IsSettled s (put_set N L s)
accepted_or_refused L N s = either_case (violating_row (sort_of L).predicate N) (violating_pair (sort_of L).tree N) L N s

-- ---- what is refused for a row

off_of_least : (P : Predicate) (N : Rows) (row : Row) → IsOff (holds P) N row → (o : Option Row) → violating_row P N ≡ o → o ≡ Some row
off_of_least P N row w None is = absurd (true≢false (sym (off_none P N is row w.there) ∙ w.refused))
off_of_least P N row w (Some r) is =
    let v = off_is P N r is in
    ap Some (least_is_one r row (row_cmp r row) refl (v.least row w.there w.refused) (w.least r v.there v.refused))

refusing : (o : Option Row) (c : Option Clash) (L : Lens) (N : Rows) (s : State) (row : Row) → by_tests o c L N s ≡ (off_predicate row, s) → o ≡ Some row
refusing None None L N s row e = absurd (subst IsAccepted (ap (λ r. r.0) e) (accepts (put L N s.tables) (changes L N s.tables) s))
refusing None (Some c) L N s row e = let f : clash c.edge c.first c.second ≡ off_predicate row = ap (λ r. r.0) e in cc
refusing (Some r) c L N s row e = let f : off_predicate r ≡ off_predicate row = ap (λ r. r.0) e in ap Some (cc)

pub refused_by : (L : Lens) (N : Rows) (s : State) (row : Row) → (put_set N L s ≡ (off_predicate row, s)) ↔ IsOff (holds (sort_of L).predicate) N row
refused_by L N s row = (
  λ e. off_is (sort_of L).predicate N row (refusing (violating_row (sort_of L).predicate N) (violating_pair (sort_of L).tree N) L N s row e),
  λ w. ap (λ o. by_tests o (violating_pair (sort_of L).tree N) L N s) (off_of_least (sort_of L).predicate N row w (violating_row (sort_of L).predicate N) refl),
)

-- ---- what is refused for a clash

-- no row is off, and the first clash has this edge and these rows
record IsClashing (o : Option Row) (c : Option Clash) (edge : Edge) (first second : Row) : Type 0 where
  not_off : o ≡ None
  found : Clash
  is : c ≡ Some found
  edge_is : found.edge ≡ edge
  first_is : found.first ≡ first
  second_is : found.second ≡ second

clashing : (o : Option Row) (c : Option Clash) (L : Lens) (N : Rows) (s : State) (edge : Edge) (first second : Row) → by_tests o c L N s ≡ (clash edge first second, s)
    → IsClashing o c edge first second
clashing None None L N s edge first second e = absurd (subst IsAccepted (ap (λ r. r.0) e) (accepts (put L N s.tables) (changes L N s.tables) s))
clashing None (Some c) L N s edge first second e =
    let same : clash c.edge c.first c.second ≡ clash edge first second = ap (λ r. r.0) e in
    record { not_off = refl; found = c; is = refl; edge_is = cc; first_is = cc; second_is = cc }
clashing (Some r) c L N s edge first second e = let f : off_predicate r ≡ clash edge first second = ap (λ r. r.0) e in cc

clashes_from : (L : Lens) (N : Rows) (s : State) (edge : Edge) (first second : Row) → put_set N L s ≡ (clash edge first second, s) → IsFirstClashOf (sort_of L) N edge first second
clashes_from L N s edge first second e =
    let w = clashing (violating_row (sort_of L).predicate N) (violating_pair (sort_of L).tree N) L N s edge first second e in
    (off_none (sort_of L).predicate N w.not_off, (w.found, clash_is (sort_of L).tree N w.found w.is, w.edge_is, w.first_is, w.second_is))

as_clash : (c : Clash) (edge : Edge) (first second : Row) (s : State) → c.edge ≡ edge → c.first ≡ first → c.second ≡ second → ◌≡◌ {A = Answer × State} (clash c.edge c.first c.second, s) (clash edge first second, s)
as_clash c edge first second s e f g = λ i. (clash (e i) (f i) (g i), s)

pub clashes_by : (L : Lens) (N : Rows) (s : State) (edge : Edge) (first second : Row) → (put_set N L s ≡ (clash edge first second, s)) ↔ IsFirstClashOf (sort_of L) N edge first second
clashes_by L N s edge first second = (
  clashes_from L N s edge first second,
  λ h. ap (λ o. by_tests o (violating_pair (sort_of L).tree N) L N s) (none_off (sort_of L).predicate N h.0)
      ∙ ap (λ c. by_tests None c L N s) (clash_of_first (sort_of L).tree N h.1.0 h.1.1 (violating_pair (sort_of L).tree N) refl)
      ∙ as_clash h.1.0 edge first second s h.1.2 h.1.3 h.1.4,
)

-- ---- what is read again, and what is changed

read_again : (s : State) (L : Lens) (N : Rows) → IsHere s L → IsOf N (sort_of L) → (ds : List TableDelta) → changes L N s.tables ≡ ds → get L (accept (put L N s.tables) ds s).1.tables ≡ N
read_again s L N here n [] is =
    let after = get_after L s.tables here.typed here.are N n in
    ap (get L) (sym (unchanged_put L N s.tables here.are after.0 is)) ∙ after.1
read_again s L N here n (d ∷ ds) is = (get_after L s.tables here.typed here.are N n).1

pub put_then_read : (s : State) (L : Lens) (N : Rows) → IsHere s L → AllFit (sort_of L).columns N → IsAccepted (put_set N L s).0 → get L (put_set N L s).1.tables ≡ N
put_then_read s L N here fits h = ap (λ r. get L r.1.tables) (accepted_is L N s h) ∙ read_again s L N here (typed_of L N s fits h) (changes L N s.tables) refl

-- the changes are told, with the version after them
pub told : (s : State) (db : Tables) (ds : List TableDelta) → (accept db ds s).0 ≡ changed ds (accept db ds s).1.version
told s db [] = refl
told s db (d ∷ ds) = refl

pub changes_told : (L : Lens) (N : Rows) (s : State) → IsAccepted (put_set N L s).0 → (put_set N L s).0 ≡ changed (changes L N s.tables) (put_set N L s).1.version
changes_told L N s h = let e = accepted_is L N s h in
    ap (λ r. r.0) e ∙ told s (put L N s.tables) (changes L N s.tables) ∙ ap (λ r. changed (changes L N s.tables) r.1.version) (sym e)

are_diffs : (ts : List Name) (old new : Tables) → AreDiffs old new (differences ts old new)
are_diffs [] old new = tt
are_diffs (t ∷ ts) old new = elim (is_empty (diff (table old t) (table new t))) as (λ b. AreDiffs old new (cond b (differences ts old new) (record { table = t; delta = diff (table old t) (table new t) } ∷ differences ts old new))) [
  | true ↦ are_diffs ts old new
  | false ↦ (refl, are_diffs ts old new)
]

differ : (s : State) (L : Lens) (N : Rows) (ds : List TableDelta) → changes L N s.tables ≡ ds → changes L N s.tables ≡ differences (set.items (tables_of L)) s.tables (accept (put L N s.tables) ds s).1.tables
differ s L N [] is = is ∙ sym (none_differ (set.items (tables_of L)) s.tables)
differ s L N (d ∷ ds) is = refl

pub changes_differ : (L : Lens) (N : Rows) (s : State) → IsAccepted (put_set N L s).0
    → (changes L N s.tables ≡ differences (set.items (tables_of L)) s.tables (put_set N L s).1.tables) × AreDiffs s.tables (put_set N L s).1.tables (changes L N s.tables)
changes_differ L N s h =
    let e : changes L N s.tables ≡ differences (set.items (tables_of L)) s.tables (put_set N L s).1.tables =
    differ s L N (changes L N s.tables) refl ∙ ap (λ r. differences (set.items (tables_of L)) s.tables r.1.tables) (sym (accepted_is L N s h)) in
    (e, subst (AreDiffs s.tables (put_set N L s).1.tables) (sym e) (are_diffs (set.items (tables_of L)) s.tables (put_set N L s).1.tables))

leaves : (L : Lens) (N : Rows) (ds : List TableDelta) (s : State) (t : Name) → set.contains (tables_of L) t ≡ false → finmap.get (accept (put L N s.tables) ds s).1.tables t ≡ finmap.get s.tables t
leaves L N [] s t o = refl
leaves L N (d ∷ ds) s t o = put_leaves L N s.tables t o

pub others_stay : (r : Result Rows EditRefusal) (L : Lens) (s : State) (t : Name) → set.contains (tables_of L) t ≡ false → finmap.get (settled r L s).1.tables t ≡ finmap.get s.tables t
others_stay (Err refusal) L s t o = refl
others_stay (Ok N) L s t o = leaves L N (changes L N s.tables) s t o

-- to put back what was read
pub read_then_put : (s : State) → Valid s → (name : Name) (L : Lens) → finmap.get (catalogue s.texts) name ≡ Some L → put_set (get L s.tables) L s ≡ (changed [] s.version, s)
read_then_put s v name L e =
    let here = lens_here s v name L e in
    let none : changes L (get L s.tables) s.tables ≡ [] = ap (differences (set.items (tables_of L)) s.tables) (put_back L s.tables here.typed here.are) ∙ none_differ (set.items (tables_of L)) s.tables in
    let n = get_sort L s.tables here.typed here.are in
    put_is_accept (get L s.tables) L s n.off n.clash ∙ ap (λ ds. accept (put L (get L s.tables) s.tables) ds s) none
