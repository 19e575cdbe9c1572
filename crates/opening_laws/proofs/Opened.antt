-- A store that opens gives a valid state, of which the same is kept; and what is kept of a valid state opens.
use Rattle.std.proofs.Common.{◌≡◌, ◌≤◌, ◌&&◌, ◌++◌, ℕ, Bool, true, false, cond, List, [], ◌∷◌, map, Option, Some, None, Result, Ok, is_some, inl, inr, refl, sym, ap, subst, ◌∙◌, arith, ◌↔◌, IfSome, not, option_map}
use Rattle.plain_values.proofs.Common.{cases_Bool, and_parts, or_cases, or_parts, true≢false, not-false, not_from_true, and_from, list_any-append, list_any, eq_by_cmp, bytes_cmp, row_cmp, Row, all_at, find_none, map_none, none_is}
use Rattle.std.specs.FinMap as finmap
use Rattle.plain_values.specs.SortedSet as set
use Rattle.plain_values.proofs.Lists.{all_from}
use Rattle.fd_laws.proofs.Common.{name_total, name_exact, name_itself, tied_name, tied_row, row_itself}
use Rattle.lens_laws.proofs.Common.{none_off, off_none}
use Rattle.lens_laws.proofs.Sorts.{find_nothing}
use Rattle.lens_specs.specs.Common.{Name, is_among, Columns, Fits, fits_at, Rows, Relation, has, holds, Sort, violating_pair, IsOf, Tables, Lens, sort_of, Kept, nothing}
use Rattle.server_specs.specs.Common.{Line, Catalogue, catalogue, is_table_of, first_refused, State, fresh, kept, Session, IsStoredAs, IsStored, Valid}
use Rattle.server_laws.proofs.Kept.{rows_of, get-rows_of}
use Rattle.server_laws.proofs.Valid.{fresh_is_valid, valid_session}
use Rattle.opening_specs.specs.Opening.{Damage, definition, is_fit, or_damage, first_bad, clash_of_table, bad_row, damage_of_rows, damage_at, sort_where, table_sort_of, damage_among, all_names, first_damage, columns_of, as_table, mapped, state_of, unless_damaged, opened}
use Rattle.opening_laws.specs.OpenLaws.{at_start}

-- ---- options

is_some-map : {A B : Type 0} (f : A → B) (o : Option A) → is_some (option_map f o) ≡ is_some o
is_some-map f None = refl
is_some-map f (Some x) = refl

-- ---- maps

pub find-mapped : {X Y : Type 0} (f : Name × X → Y) (q : Name) (es : List (Name × X)) → finmap.find bytes_cmp q (map (λ e. (e.0, f e)) es) ≡ option_map (λ x. f (q, x)) (finmap.find bytes_cmp q es)
find-mapped f q [] = refl
find-mapped f q (e ∷ es) = elim (eq_by_cmp bytes_cmp q e.0) as (λ b. eq_by_cmp bytes_cmp q e.0 ≡ b
    → cond b (Some (f e)) (finmap.find bytes_cmp q (map (λ e. (e.0, f e)) es)) ≡ option_map (λ x. f (q, x)) (cond b (Some e.1) (finmap.find bytes_cmp q es))) [
      | true ↦ λ is. ap (λ n. Some (f (n, e.1))) (sym (tied_name q e.0 is))
      | false ↦ λ _. find-mapped f q es
    ] refl

-- what is found is what f makes of what was there
pub get-mapped : {X Y : Type 0} (f : Name × X → Y) (m : finmap.FinMap bytes_cmp X) (q : Name) → finmap.get (mapped f m) q ≡ option_map (λ x. f (q, x)) (finmap.get m q)
get-mapped f m q = finmap.get-from_entries name_total (map (λ e. (e.0, f e)) (finmap.entries m)) q ∙ find-mapped f q (finmap.entries m)
    ∙ ap (option_map (λ x. f (q, x))) (sym (finmap.get-entries m q))

-- a name that is no key has nothing
pub no_key : {X : Type 0} (m : finmap.FinMap bytes_cmp X) (q : Name) → list_any (eq_by_cmp bytes_cmp q) (finmap.keys m) ≡ false → finmap.get m q ≡ None
no_key m q h = none_is (finmap.get m q) (finmap.contains_key-keys m q ∙ h)

-- a name that is a key of neither has nothing in both
pub no_keys : {X Y : Type 0} (m : finmap.FinMap bytes_cmp X) (n : finmap.FinMap bytes_cmp Y) (q : Name) → list_any (eq_by_cmp bytes_cmp q) (finmap.keys m ++ finmap.keys n) ≡ false
    → (finmap.get m q ≡ None) × (finmap.get n q ≡ None)
no_keys m n q h =
    let w = or_parts (list_any (eq_by_cmp bytes_cmp q) (finmap.keys m)) (list_any (eq_by_cmp bytes_cmp q) (finmap.keys n)) (sym (list_any-append (eq_by_cmp bytes_cmp q) (finmap.keys m) (finmap.keys n)) ∙ h) in
    (no_key m q w.0, no_key n q w.1)

-- ---- rows that fit

-- whether the value of the row fits the columns at a name
abbrev fits_here : Columns → Row → Name → Bool
fits_here U r c = fits_at (finmap.get r c) (finmap.get U c)

pub fit_is : (U : Columns) (r : Row) → is_fit U r ≡ true → Fits U r
fit_is U r h c = elim (cases_Bool (list_any (eq_by_cmp bytes_cmp c) (finmap.keys U ++ finmap.keys r))) [
  | inl i ↦ all_at (eq_by_cmp bytes_cmp) tied_name name_itself (fits_here U r) (finmap.keys U ++ finmap.keys r) h c i
  | inr o ↦ let w = no_keys U r c o in rw (w.0, w.1) refl
]

pub is_fit_from : (U : Columns) (r : Row) → Fits U r → is_fit U r ≡ true
is_fit_from U r h = all_from (eq_by_cmp bytes_cmp) tied_name name_itself (fits_here U r) (finmap.keys U ++ finmap.keys r) (λ c i. h c)

-- ---- the damage of rows

pub or_none : (a b : Option Damage) → or_damage a b ≡ None → (a ≡ None) × (b ≡ None)
or_none None b e = (refl, e)
or_none (Some d) b e = cc

pub none_or : (a b : Option Damage) → a ≡ None → b ≡ None → or_damage a b ≡ None
none_or None b e f = f
none_or (Some d) b e f = e

is_good : Sort → Row → Bool
is_good s r = is_fit s.columns r && holds s.predicate r

none_bad : (s : Sort) (M : Rows) → first_bad s M ≡ None → (r : Row) → has M r ≡ true → (is_fit s.columns r ≡ true) × (holds s.predicate r ≡ true)
none_bad s M e r i = and_parts (is_fit s.columns r) (holds s.predicate r)
    (not-false _ (find_none (eq_by_cmp row_cmp) tied_row row_itself (λ r. not (is_fit s.columns r && holds s.predicate r)) (set.items M) e r (sym (set.contains-items M r) ∙ i)))

no_bad : (s : Sort) (M : Rows) → IsOf M s → first_bad s M ≡ None
no_bad s M h = find_nothing (λ r. not (is_fit s.columns r && holds s.predicate r)) (set.items M) (λ r i.
    let j = set.contains-items M r ∙ i in
    not_from_true (is_fit s.columns r && holds s.predicate r) (and_from _ _ (is_fit_from s.columns r (h.columns r j)) (off_none s.predicate M h.off r j)))

-- rows with no damage are of the sort
pub rows_whole : (q : Name) (s : Sort) (M : Rows) → damage_of_rows q s M ≡ None → IsOf M s
rows_whole q s M e =
    let w = or_none (option_map (bad_row q) (first_bad s M)) (option_map (clash_of_table q) (violating_pair s.tree M)) e in
    let good = none_bad s M (map_none (bad_row q) (first_bad s M) w.0) in
    record {
      columns = λ r i. fit_is s.columns r (good r i).0;
      off = none_off s.predicate M (λ r i. (good r i).1);
      clash = map_none (clash_of_table q) (violating_pair s.tree M) w.1;
    }

-- and rows of the sort have none
pub whole_rows : (q : Name) (s : Sort) (M : Rows) → IsOf M s → damage_of_rows q s M ≡ None
whole_rows q s M h = none_or (option_map (bad_row q) (first_bad s M)) (option_map (clash_of_table q) (violating_pair s.tree M)) (ap (option_map (bad_row q)) (no_bad s M h)) (ap (option_map (clash_of_table q)) h.clash)

-- ---- the damage at a name

-- the rows with the columns of a sort that is there
abbrev with_columns : Option Sort → Rows → Relation
with_columns s M = record { columns = columns_of s; rows = M }

stored_by : (q : Name) (b : Bool) (L : Lens) (o : Option Rows) → damage_at q (sort_where b (sort_of L)) o ≡ None → IsStoredAs b L (option_map (with_columns (sort_where b (sort_of L))) o)
stored_by q true L None e = cc
stored_by q true L (Some M) e = (refl, rows_whole q (sort_of L) M e)
stored_by q false L None e = refl
stored_by q false L (Some M) e = cc

stored_at : (q : Name) (o : Option Lens) (p : Option Rows) → damage_at q (table_sort_of q o) p ≡ None → IsStored q o (option_map (with_columns (table_sort_of q o)) p)
stored_at q None None e = refl
stored_at q None (Some M) e = cc
stored_at q (Some L) p e = stored_by q (is_table_of q L) L p e

whole_by : (q : Name) (b : Bool) (L : Lens) (o : Option Relation) → IsStoredAs b L o → damage_at q (sort_where b (sort_of L)) (option_map (λ r. r.rows) o) ≡ None
whole_by q true L None h = absurd h
whole_by q true L (Some M) h = whole_rows q (sort_of L) M.rows h.1
whole_by q false L o h = ap (λ o. damage_at q None (option_map (λ r. r.rows) o)) h

whole_at : (q : Name) (o : Option Lens) (r : Option Relation) → IsStored q o r → damage_at q (table_sort_of q o) (option_map (λ r. r.rows) r) ≡ None
whole_at q None r h = ap (λ o. damage_at q None (option_map (λ r. r.rows) o)) h
whole_at q (Some L) r h = whole_by q (is_table_of q L) L r h

again_by : (b : Bool) (L : Lens) (o : Option Relation) → IsStoredAs b L o → option_map (with_columns (sort_where b (sort_of L))) (option_map (λ r. r.rows) o) ≡ o
again_by true L None h = absurd h
again_by true L (Some M) h = λ i. Some (record { columns = sym h.0 i; rows = M.rows })
again_by false L o h = ap (λ o. option_map (with_columns None) (option_map (λ r. r.rows) o)) h ∙ sym h

again_at : (q : Name) (o : Option Lens) (r : Option Relation) → IsStored q o r → option_map (with_columns (table_sort_of q o)) (option_map (λ r. r.rows) r) ≡ r
again_at q None r h = ap (λ o. option_map (with_columns None) (option_map (λ r. r.rows) o)) h ∙ sym h
again_at q (Some L) r h = again_by (is_table_of q L) L r h

rows_again : (s : Option Sort) (o : Option Rows) → option_map (λ r. r.rows) (option_map (with_columns s) o) ≡ o
rows_again s None = refl
rows_again s (Some M) = refl

-- ---- the damage of a store

-- there is no damage at the name
abbrev IsWhole : Catalogue → finmap.FinMap bytes_cmp Rows → Name → Type 0
IsWhole known rows q = damage_at q (table_sort_of q (finmap.get known q)) (finmap.get rows q) ≡ None

pub whole_among : (known : Catalogue) (rows : finmap.FinMap bytes_cmp Rows) (ns : List Name) → damage_among known rows ns ≡ None → (q : Name) → is_among q ns ≡ true → IsWhole known rows q
whole_among known rows [] e q i = absurd (true≢false (sym i))
whole_among known rows (n ∷ ns) e q i =
    let w = or_none (damage_at n (table_sort_of n (finmap.get known n)) (finmap.get rows n)) (damage_among known rows ns) e in
    elim (or_cases (eq_by_cmp bytes_cmp q n) (is_among q ns) i) [
      | inl is ↦ subst (IsWhole known rows) (sym (tied_name q n is)) w.0
      | inr j ↦ whole_among known rows ns w.1 q j
    ]

pub none_among : (known : Catalogue) (rows : finmap.FinMap bytes_cmp Rows) (ns : List Name) → ((q : Name) → IsWhole known rows q) → damage_among known rows ns ≡ None
none_among known rows [] h = refl
none_among known rows (n ∷ ns) h = none_or (damage_at n (table_sort_of n (finmap.get known n)) (finmap.get rows n)) (damage_among known rows ns) (h n) (none_among known rows ns h)

whole_everywhere : (known : Catalogue) (rows : finmap.FinMap bytes_cmp Rows) → damage_among known rows (set.items (all_names known rows)) ≡ None → (q : Name) → IsWhole known rows q
whole_everywhere known rows e q = elim (cases_Bool (is_among q (set.items (all_names known rows)))) [
  | inl i ↦ whole_among known rows (set.items (all_names known rows)) e q i
  | inr o ↦
      let out = sym (set.contains-from_list name_total (finmap.keys known ++ finmap.keys rows) q) ∙ set.contains-items (all_names known rows) q ∙ o in
      let w = no_keys known rows q out in
      ap (λ p. damage_at q (table_sort_of q p) (finmap.get rows q)) w.0 ∙ ap (damage_at q None) w.1
]

-- ---- what is opened

unless_ok : (d : Option Damage) (k : Kept) (s : State) → unless_damaged d k ≡ Ok s → (d ≡ None) × (state_of k ≡ s)
unless_ok None k s e = (refl, cc)
unless_ok (Some d) k s e = cc

zero_version : (o : Option Rows) → IfSome (option_map {U = ℕ} (λ x. 0) o) (λ version. version ≤ 0)
zero_version None = tt
zero_version (Some M) = omega arith

pub state_is_valid : (k : Kept) → first_damage k ≡ None → Valid (state_of k)
state_is_valid k e =
    let known = catalogue k.texts in
    let w = or_none (option_map definition (first_refused k.texts)) (damage_among known k.rows (set.items (all_names known k.rows))) e in
    let whole = whole_everywhere known k.rows w.1 in
    record {
      definitions = map_none definition (first_refused k.texts) w.0;
      tables = λ q. subst (IsStored q (finmap.get known q)) (sym (get-mapped (as_table known) k.rows q)) (stored_at q (finmap.get known q) (finmap.get k.rows q) (whole q));
      last = λ q. ap is_some (get-mapped {Y = ℕ} (λ e. 0) k.rows q) ∙ is_some-map {B = ℕ} (λ x. 0) (finmap.get k.rows q)
          ∙ sym (ap is_some (get-mapped (as_table known) k.rows q) ∙ is_some-map (λ x. as_table known (q, x)) (finmap.get k.rows q));
      versions = λ q. subst (λ o. IfSome o (λ version. version ≤ 0)) (sym (get-mapped {Y = ℕ} (λ e. 0) k.rows q)) (zero_version (finmap.get k.rows q));
      few = omega arith;
      differences = tt;
      past = tt;
    }

pub opened_is_valid : (k : Kept) (s : State) → opened k ≡ Ok s → Valid s
unfolding opened
opened_is_valid k s e = let w = unless_ok (first_damage k) k s e in subst Valid w.1 (state_is_valid k w.0)

state_is_kept : (k : Kept) → kept (state_of k) ≡ k
state_is_kept k =
    let known = catalogue k.texts in
    let db : Tables = (state_of k).tables in
    let e : rows_of db ≡ k.rows = finmap.same_map name_total name_exact (rows_of db) k.rows (λ q.
    get-rows_of db q ∙ ap (option_map (λ r. r.rows)) (get-mapped (as_table known) k.rows q) ∙ rows_again (table_sort_of q (finmap.get known q)) (finmap.get k.rows q)) in
    λ i. record { texts = k.texts; rows = e i }

pub opened_is_kept : (k : Kept) (s : State) → opened k ≡ Ok s → kept s ≡ k
unfolding opened
opened_is_kept k s e = let w = unless_ok (first_damage k) k s e in ap kept (sym w.1) ∙ state_is_kept k

no_damage : (s : State) → Valid s → first_damage (kept s) ≡ None
no_damage s v =
    let known = catalogue s.texts in
    none_or (option_map definition (first_refused s.texts)) (damage_among known (rows_of s.tables) (set.items (all_names known (rows_of s.tables)))) (ap (option_map definition) v.definitions)
    (none_among known (rows_of s.tables) (set.items (all_names known (rows_of s.tables))) (λ q.
    ap (damage_at q (table_sort_of q (finmap.get known q))) (get-rows_of s.tables q) ∙ whole_at q (finmap.get known q) (finmap.get s.tables q) (v.tables q)))

zero_again : (o : Option Relation) → option_map {U = ℕ} (λ x. 0) (option_map (λ r. r.rows) o) ≡ option_map {U = ℕ} (λ x. 0) o
zero_again None = refl
zero_again (Some M) = refl

state_again : (s : State) → Valid s → state_of (kept s) ≡ at_start s
state_again s v =
    let known = catalogue s.texts in
    let tables : mapped (as_table known) (rows_of s.tables) ≡ s.tables = finmap.same_map name_total name_exact _ _ (λ q.
    get-mapped (as_table known) (rows_of s.tables) q ∙ ap (option_map (λ x. as_table known (q, x))) (get-rows_of s.tables q) ∙ again_at q (finmap.get known q) (finmap.get s.tables q) (v.tables q)) in
    let last : mapped {Y = ℕ} (λ e. 0) (rows_of s.tables) ≡ mapped {Y = ℕ} (λ e. 0) s.tables = finmap.same_map name_total name_exact _ _ (λ q.
    get-mapped {Y = ℕ} (λ e. 0) (rows_of s.tables) q ∙ ap (option_map {U = ℕ} (λ x. 0)) (get-rows_of s.tables q) ∙ zero_again (finmap.get s.tables q) ∙ sym (get-mapped {Y = ℕ} (λ e. 0) s.tables q)) in
    λ i. record { texts = s.texts; tables = tables i; version = 0; last = last i; past = [] }

pub kept_is_opened : (s : State) → Valid s → opened (kept s) ≡ Ok (at_start s)
unfolding opened
kept_is_opened s v = ap (λ d. unless_damaged d (kept s)) (no_damage s v) ∙ ap Ok (state_again s v)

pub opens_where : (k : Kept) → ((s : State) × (opened k ≡ Ok s)) ↔ ((s : State) × Valid s × (kept s ≡ k))
opens_where k = (
  λ w. (w.0, opened_is_valid k w.0 w.1, opened_is_kept k w.0 w.1),
  λ w. (at_start w.0, ap opened (sym w.2) ∙ kept_is_opened w.0 w.1),
)

ok_same : {A B : Type 0} (a b : A) → (let r : Result A B = Ok a in r) ≡ Ok b → a ≡ b
ok_same a b e = cc

pub opened_at_start : (k : Kept) (s : State) → opened k ≡ Ok s → s ≡ at_start s
opened_at_start k s e = ok_same s (at_start s) (sym e ∙ ap opened (sym (opened_is_kept k s e)) ∙ kept_is_opened s (opened_is_valid k s e))

pub opens_again : (k : Kept) (s : State) → opened k ≡ Ok s → (count : ℕ) (lines : List Line) (replies : List (List ℕ)) (last : State) (count' : ℕ)
    → Session s count lines replies last count' → opened (kept last) ≡ Ok (at_start last)
opens_again k s e count lines replies last count' session = kept_is_opened last (valid_session s count lines replies last count' (opened_is_valid k s e) session).1

-- what f makes of nothing
mapped_nothing : {X Y : Type 0} (f : Name × X → Y) → mapped f finmap.empty ≡ finmap.empty
mapped_nothing f = finmap.same_map name_total name_exact (mapped f finmap.empty) finmap.empty (λ q.
    get-mapped f finmap.empty q ∙ ap (option_map (λ x. f (q, x))) (finmap.get-empty bytes_cmp q) ∙ sym (finmap.get-empty bytes_cmp q))

nothing_is_kept : kept fresh ≡ nothing
nothing_is_kept =
    let e : rows_of finmap.empty ≡ finmap.empty = finmap.same_map name_total name_exact (rows_of finmap.empty) finmap.empty (λ q.
    get-rows_of finmap.empty q ∙ ap (option_map (λ r. r.rows)) (finmap.get-empty bytes_cmp q) ∙ sym (finmap.get-empty bytes_cmp q)) in
    λ i. record { texts = []; rows = e i }

fresh_at_start : at_start fresh ≡ fresh
fresh_at_start = λ i. record { texts = []; tables = finmap.empty; version = 0; last = mapped_nothing {X = Relation} {Y = ℕ} (λ e. 0) i; past = [] }

pub nothing_opens : opened nothing ≡ Ok fresh
nothing_opens = ap opened (sym nothing_is_kept) ∙ kept_is_opened fresh fresh_is_valid ∙ ap Ok fresh_at_start
