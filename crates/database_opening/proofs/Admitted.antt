-- Definitions that are taken one after another.
use Rattle.std.proofs.Common.{◌≡◌, ◌∙◌, ◌++◌, ◌||◌, ◌+◌, ◌<◌, ◌≤◌, ℕ, arith, suc, is_some, Bool, true, false, cond, List, [], ◌∷◌, length, Option, Some, None, Result, Ok, Err, ap, sym, subst, refl, inl, inr, ◌^◌, sum_by, IsOk, OnOk, if◌then◌else◌, is_err, option_map}
use Rattle.plain_values.proofs.Common.{option_to_list, cases_Bool, or_parts, true≢false, list_any-append, eq_by_cmp, Less, Equal, Greater, sum_by-cons, bytes_cmp, place_none}
use Rattle.std.specs.FinMap as finmap
use Rattle.fd_laws.proofs.Common.{name_itself, name_total, tied_name}
use Rattle.lens_laws.proofs.Common.{count_of, count-none}
use Rattle.opened_view.specs.Counters.{row_count}
use Rattle.plain_values.specs.SortedSet as set
use Rattle.lens_specs.specs.Common.{Lens, Tables, sort_of, Name, is_among, Relation, Sort}
use Rattle.base_index.specs.Held.{IsNew, IsQuiet, State, no_tables, with_table}
use Rattle.grammar_laws.specs.Reading.{reading}
use Rattle.server_specs.specs.Common.{Catalogue, catalogue, catalogue_onto, is_table_of, with_definition, first_refused, judged, refused_from}
use Rattle.opening_specs.specs.Opening.{definition, sort_where, table_sort_of}
use Rattle.view_catalog.specs.Admissions.{IsAdmissible, table_in}
use Rattle.view_catalog.specs.Faults.{IsRefused}
use Rattle.view_catalog.specs.declared.fault.CatalogFault.{CatalogFault}
use Rattle.view_catalog.specs.declared.prepared.Prepared.{Prepared}
use Rattle.server_laws.proofs.Stored.{name_same}
use Rattle.server_laws.proofs.Taken.{first_refused-push}
use Rattle.server_laws.specs.StateLaws.{AreShort}
use Rattle.view_catalog.proofs.Growth.{grown_by, new_name}
use Rattle.database.proofs.Grown.{AllIndexed, HasBases, indexed_after}
use Rattle.database.specs.Plans.{IsFree}
use Rattle.database.specs.Staging.{defined_by, needs_of, table_of, walked_by}
use Rattle.database.proofs.Walked.{walked_few}
use Rattle.database_opening.specs.declared.definitions.Admitted.{Admitted}
use Rattle.database_opening.specs.Openings.{AreAdmitted, HasEmptyTables, HasTables, IsRefusedAt}
use Rattle.database_opening.specs.declared.fault.OpenFault.{OpenFault}
use Rattle.database_opening.specs.declared.fault.OpenFault.TheVariants as fault

-- ---- the first text that is refused

no_err : {A E : Type 0} (r : Result A E) → IsOk r → is_err r ≡ false
no_err (Ok a) h = refl
no_err (Err e) h = absurd (true≢false (sym h))

-- what is ensured where there is no error
pub on_ok : {A E P : Type 0} (r : Result A E) → is_err r ≡ false → OnOk r P → P
on_ok (Ok a) none p = p
on_ok (Err e) none p = absurd (true≢false none)

-- one text more, which is taken
taken_more : (known : Catalogue) (texts : List (List ℕ)) (text : List ℕ) → refused_from known texts ≡ None
    → is_err (judged (catalogue_onto known texts) (reading text)) ≡ false → refused_from known (texts ++ text ∷ []) ≡ None
taken_more known [] text all last = ap (λ b. cond b (Some 0) None) last
taken_more known (first ∷ texts) text all last =
    let w = place_none (is_err (judged known (reading first))) (refused_from (with_definition (reading first) known) texts) all in
    ap (λ b. cond b (Some 0) (option_map suc (refused_from (with_definition (reading first) known) (texts ++ text ∷ [])))) w.0
    ∙ ap (option_map suc) (taken_more (with_definition (reading first) known) texts text w.1 last)

-- or is refused
refused_here : (known : Catalogue) (texts : List (List ℕ)) (text : List ℕ) (others : List (List ℕ)) → refused_from known texts ≡ None
    → is_err (judged (catalogue_onto known texts) (reading text)) ≡ true → refused_from known (texts ++ text ∷ others) ≡ Some (length texts)
refused_here known [] text others all last = ap (λ b. cond b (Some 0) (option_map suc (refused_from (with_definition (reading text) known) others))) last
refused_here known (first ∷ texts) text others all last =
    let w = place_none (is_err (judged known (reading first))) (refused_from (with_definition (reading first) known) texts) all in
    ap (λ b. cond b (Some 0) (option_map suc (refused_from (with_definition (reading first) known) (texts ++ text ∷ others)))) w.0
    ∙ ap (option_map suc) (refused_here (with_definition (reading first) known) texts text others w.1 last)

-- a refusal with its place is the first one's
pub refused_told : (place : ℕ) (why : CatalogFault) (r : OpenFault) (texts all others : List (List ℕ)) (text : List ℕ) → IsRefusedAt place why r
    → place ≡ length texts → first_refused texts ≡ None → IsRefused why (judged (catalogue texts) (reading text)) → all ≡ texts ++ text ∷ others
    → AreAdmitted (Err r) all
refused_told place why (fault.Damaged damage) texts all others text is here taken refused whole =
    ap (λ ts. option_map definition (first_refused ts)) whole
    ∙ ap (option_map definition) (refused_here finmap.empty texts text others taken (ap is_err (refused is.0)))
    ∙ ap (λ n. Some (definition n)) (sym here) ∙ ap Some (sym is.1)
refused_told place why fault.NoMemory texts all others text is here taken refused whole = tt

-- a text more is taken
pub all_taken : (texts : List (List ℕ)) (text : List ℕ) → first_refused texts ≡ None → IsOk (judged (catalogue texts) (reading text)) → first_refused (texts ++ text ∷ []) ≡ None
all_taken texts text taken ok = taken_more finmap.empty texts text taken (no_err (judged (catalogue texts) (reading text)) ok)

-- ---- the names of the tables

-- no table of the name
no_table : (name : Name) (b : Bool) (L : Lens) → is_table_of name L ≡ b → is_among name (option_to_list (cond b (Some name) None)) ≡ false → sort_where b (sort_of L) ≡ None
no_table name true L is out = absurd (true≢false (sym (ap (λ b. b || false) (name_itself name)) ∙ out))
no_table name false L is out = refl

-- the names with that of a new table, if it is one
names_grow : (known : Catalogue) (names : List Name) (name : Name) (L : Lens) → HasTables known names → HasTables (finmap.insert known name L) (names ++ option_to_list (table_in name L))
names_grow known names name L has q out =
    let w = or_parts (is_among q names) (is_among q (option_to_list (table_in name L))) (sym (list_any-append (eq_by_cmp bytes_cmp q) names (option_to_list (table_in name L))) ∙ out) in
    ap (table_sort_of q) (finmap.get-insert name_total known name L q)
    ∙ elim (cases_Bool (eq_by_cmp bytes_cmp q name)) as (λ _. table_sort_of q (cond (eq_by_cmp bytes_cmp q name) (Some L) (finmap.get known q)) ≡ None) [
      | inl is ↦
          let same : q ≡ name = tied_name q name is in
          ap (λ b. table_sort_of q (cond b (Some L) (finmap.get known q))) is ∙ ap (λ n. table_sort_of n (Some L)) same
          ∙ no_table name (is_table_of name L) L refl (subst (λ n. is_among n (option_to_list (table_in name L)) ≡ false) same w.1)
      | inr other ↦ ap (λ b. table_sort_of q (cond b (Some L) (finmap.get known q))) other ∙ has q w.0
    ]

-- the names once a definition is taken
pub names_after : (texts : List (List ℕ)) (p : Prepared) (names : List Name) → IsAdmissible texts p → HasTables (catalogue texts) names
    → HasTables (catalogue (texts ++ p.text ∷ [])) (names ++ option_to_list (table_in p.name p.lens))
names_after texts p names a has =
    subst (λ known. HasTables known (names ++ option_to_list (table_in p.name p.lens))) (sym (grown_by texts p a)) (names_grow (catalogue texts) names p.name p.lens has)

-- there are none at first
pub no_names : HasTables (catalogue []) []
no_names q out = ap (table_sort_of q) (finmap.get-empty bytes_cmp q)

-- ---- the tables, which have no row

-- the table with no row of a table's sort
abbrev pub empty_of : Option Sort → Option Relation
empty_of s = option_map (λ s. record { columns = s.columns; rows = set.empty }) s

-- the tables are those of the catalogue, with no row
abbrev pub AreEmpty : Catalogue → Tables → Type 0
AreEmpty known db = (name : Name) → finmap.get db name ≡ empty_of (table_sort_of name (finmap.get known name))

-- a name without a lens has no table
none_there : (known : Catalogue) (db : Tables) (name : Name) → AreEmpty known db → finmap.get known name ≡ None → finmap.get db name ≡ None
none_there known db name empty free = empty name ∙ ap (λ o. empty_of (table_sort_of name o)) free

-- each table of the catalogue is there
empty_bases : (known : Catalogue) (st : State) → AreEmpty known st.relations → HasBases known st
empty_bases known st empty t s e =
    ap is_some (empty t ∙ ap (λ o. empty_of (table_sort_of t o)) e ∙ ap (λ b. empty_of (sort_where b s)) (name_same t))

-- that of a new table is there too
own_table : (name : Name) (M : Lens) (b : Bool) (st : State) (q : Name) → is_table_of name M ≡ b → eq_by_cmp bytes_cmp q name ≡ true → finmap.get st.relations name ≡ None
    → finmap.get (with_table (table_of (if b then Some name else None) M) st).relations q ≡ empty_of (table_sort_of q (Some M))
own_table name M true st q own is none =
    let same : q ≡ name = tied_name q name is in
    finmap.get-insert name_total st.relations name (record { columns = (sort_of M).columns; rows = set.empty }) q
    ∙ ap (λ b. cond b (Some (record { columns = (sort_of M).columns; rows = set.empty })) (finmap.get st.relations q)) is
    ∙ sym (ap (λ n. empty_of (table_sort_of n (Some M))) same ∙ ap (λ b. empty_of (sort_where b (sort_of M))) own)
own_table name M false st q own is none =
    let same : q ≡ name = tied_name q name is in
    ap (finmap.get st.relations) same ∙ none
    ∙ sym (ap (λ n. empty_of (table_sort_of n (Some M))) same ∙ ap (λ b. empty_of (sort_where b (sort_of M))) own)

-- and the others stay
other_table : (name : Name) (M : Lens) (b : Bool) (st : State) (q : Name) → eq_by_cmp bytes_cmp q name ≡ false
    → finmap.get (with_table (table_of (if b then Some name else None) M) st).relations q ≡ finmap.get st.relations q
other_table name M true st q other =
    finmap.get-insert name_total st.relations name (record { columns = (sort_of M).columns; rows = set.empty }) q
    ∙ ap (λ b. cond b (Some (record { columns = (sort_of M).columns; rows = set.empty })) (finmap.get st.relations q)) other
other_table name M false st q other = refl

empty_grow : (known : Catalogue) (name : Name) (M : Lens) (st : State) → finmap.get known name ≡ None → AreEmpty known st.relations
    → AreEmpty (finmap.insert known name M) (defined_by (table_in name M) M st).relations
empty_grow known name M st free empty q = elim (cases_Bool (eq_by_cmp bytes_cmp q name)) [
  | inl is ↦
      own_table name M (is_table_of name M) st q refl is (none_there known st.relations name empty free)
      ∙ sym (ap (λ o. empty_of (table_sort_of q o)) (finmap.get-insert name_total known name M q ∙ ap (λ b. cond b (Some M) (finmap.get known q)) is))
  | inr other ↦
      other_table name M (is_table_of name M) st q other ∙ empty q
      ∙ sym (ap (λ o. empty_of (table_sort_of q o)) (finmap.get-insert name_total known name M q ∙ ap (λ b. cond b (Some M) (finmap.get known q)) other))
]

-- the table of a name without a lens is new
free_table : (known : Catalogue) (db : Tables) (name : Name) (M : Lens) (b : Bool) → AreEmpty known db → finmap.get known name ≡ None → IsFree (if b then Some name else None) db
free_table known db name M true empty free = ap is_some (none_there known db name empty free)
free_table known db name M false empty free = tt

new_table : (o : Option Name) (M : Lens) (st : State) → IsFree o st.relations → IsNew (table_of o M) st
new_table None M st free = tt
new_table (Some name) M st free = free

-- the table that a definition makes, if it makes one, is new
pub table_is_free : (admitted : Admitted) (p : Prepared) → HasEmptyTables admitted → IsAdmissible admitted.catalog.texts p → IsFree (table_in p.name p.lens) admitted.tables.present.relations
table_is_free admitted p h a =
    free_table (catalogue admitted.catalog.texts) admitted.tables.present.relations p.name p.lens (is_table_of p.name p.lens) h.tables (new_name admitted.catalog.texts p a)

-- ---- rows, of which there are none

-- a table more has its own rows more at most
put_rows : (name : Name) (r : Relation) (es : List (Name × Relation)) → sum_by (λ (e : Name × Relation). count_of e.1.rows) (finmap.put bytes_cmp name r es) ≤ count_of r.rows + sum_by (λ (e : Name × Relation). count_of e.1.rows) es
put_rows name r [] = let rows : Name × Relation → ℕ = λ e. count_of e.1.rows in omega (arith, sum_by-cons rows (name, r) [])
put_rows name r (e ∷ es) =
    let rows : Name × Relation → ℕ = λ e. count_of e.1.rows in
    elim (bytes_cmp name e.0) as (λ o. sum_by rows (finmap.Entries.by_order o ((name, r) ∷ e ∷ es) ((e.0, r) ∷ es) (e ∷ finmap.put bytes_cmp name r es)) ≤ count_of r.rows + sum_by rows (e ∷ es)) [
      | Less ↦ omega (arith, sum_by-cons rows (name, r) (e ∷ es))
      | Equal ↦ omega (arith, sum_by-cons rows (e.0, r) es, sum_by-cons rows e es)
      | Greater ↦ omega (arith, sum_by-cons rows e (finmap.put bytes_cmp name r es), sum_by-cons rows e es, put_rows name r es)
    ]

none_left : (es : List (Name × Relation)) → length es ≡ 0 → sum_by (λ (e : Name × Relation). count_of e.1.rows) es ≡ 0
none_left [] e = refl
none_left (x ∷ xs) e = absurd (omega (arith, e))

-- there is none where there is no table
no_rows : row_count finmap.empty ≡ 0
no_rows = none_left (finmap.entries {R = bytes_cmp} finmap.empty) (sym (finmap.len-entries {R = bytes_cmp} finmap.empty) ∙ finmap.len-empty bytes_cmp Relation)

-- and a definition adds none
no_row_more : (table : Option Name) (L : Lens) (st : State) → row_count st.relations ≡ 0 → row_count (defined_by table L st).relations ≡ 0
no_row_more None L st none = none
no_row_more (Some name) L st none =
    let new : Relation = record { columns = (sort_of L).columns; rows = set.empty } in
    let all = ap (λ es. sum_by (λ (e : Name × Relation). count_of e.1.rows) es) (finmap.entries-insert name_total st.relations name new) in
    omega (arith, all, put_rows name new (finmap.entries st.relations), count-none, none)

-- so no row is walked for one
pub none_walked : (admitted : Admitted) (L : Lens) (old new : ℕ) → HasEmptyTables admitted → old ≤ new → new ≤ old + walked_by L admitted.tables.present → new ≡ old
none_walked admitted L old new h on few = omega (arith, on, few, walked_few (needs_of L) admitted.tables.present, h.rows)

short_more : (texts : List (List ℕ)) (text : List ℕ) → AreShort texts → length text < 2 ^ 64 → AreShort (texts ++ text ∷ [])
short_more [] text all short = (short, tt)
short_more (first ∷ texts) text all short = (all.0, short_more texts text all.1 short)

-- a definition more is taken, with the tables and indexes after it
pub empty_after : (old new : Admitted) (p : Prepared) → HasEmptyTables old → IsAdmissible old.catalog.texts p → length p.text < 2 ^ 64
    → new.catalog.texts ≡ old.catalog.texts ++ p.text ∷ [] → new.tables.present ≡ defined_by (table_in p.name p.lens) p.lens old.tables.present → IsQuiet new.tables → new.tables.held ≡ old.tables.held
    → HasEmptyTables new
empty_after old new p h a short texts tables quiet held =
    let known = catalogue old.catalog.texts in
    let st = old.tables.present in
    let more = old.catalog.texts ++ p.text ∷ [] in
    let after = defined_by (table_in p.name p.lens) p.lens st in
    let grown = empty_grow known p.name p.lens st (new_name old.catalog.texts p a) h.tables in
    let empty : AreEmpty (catalogue more) after.relations = subst (λ k. AreEmpty k after.relations) (sym (grown_by old.catalog.texts p a)) grown in
    let indexed : AllIndexed (catalogue more) after =
    indexed_after old.catalog.texts p st h.taken a (empty_bases known st h.tables) (new_table (table_in p.name p.lens) p.lens st (table_is_free old p h a)) h.indexed in
    record {
      quiet = quiet;
      free = held ∙ h.free;
      taken = subst (λ ts. first_refused ts ≡ None) (sym texts) (first_refused-push old.catalog.texts p.text a.definition h.taken a.taken);
      short = subst AreShort (sym texts) (short_more old.catalog.texts p.text h.short short);
      indexed = subst (λ ts. AllIndexed (catalogue ts) new.tables.present) (sym texts) (subst (AllIndexed (catalogue more)) (sym tables) indexed);
      tables = subst (λ ts. AreEmpty (catalogue ts) new.tables.present.relations) (sym texts) (subst (λ t. AreEmpty (catalogue more) t.relations) (sym tables) empty);
      rows = ap (λ t. row_count t.relations) tables ∙ no_row_more (table_in p.name p.lens) p.lens st h.rows;
    }

-- where nothing is defined, there is no table
pub empty_at_first : (admitted : Admitted) → admitted.catalog.texts ≡ [] → admitted.tables ≡ record { present = no_tables; next = no_tables; held = None } → HasEmptyTables admitted
empty_at_first admitted texts tables = record {
  quiet = subst IsQuiet (sym tables) refl;
  free = ap (λ t. t.held) tables;
  taken = subst (λ ts. first_refused ts ≡ None) (sym texts) refl;
  short = subst AreShort (sym texts) tt;
  indexed = subst (λ ts. AllIndexed (catalogue ts) admitted.tables.present) (sym texts) (λ name L e. let f : None ≡ Some L = sym (finmap.get-empty bytes_cmp name) ∙ e in cc);
  rows = ap (λ t. row_count t.present.relations) tables ∙ no_rows;
  tables = subst (λ ts. AreEmpty (catalogue ts) admitted.tables.present.relations) (sym texts)
      (subst (λ t. AreEmpty (catalogue []) t.present.relations) (sym tables) (λ name. finmap.get-empty bytes_cmp name ∙ sym (ap (λ o. empty_of (table_sort_of name o)) (finmap.get-empty bytes_cmp name))));
}
