-- What is known of the tables after a definition and after differences, for callers.
--     there_new, relation_new, get_old     the new table, and the tables that were there
--     indexes_defined, indexed             the indexes after a definition; each need is met
--     asked, still_indexed                 a table may be asked by each set of its list, and after a definition too
--     get_other, get_changed, changed_at   a table that no difference names, and one that a difference names
--     there_after                          no table goes by differences
use Rattle.std.proofs.Common.{◌≡◌, ℕ, ◌<◌, List, [], ◌∷◌, ◌++◌, length, get_or, ap, sym, ◌∙◌, refl, Bool, true, false, cond, zero, suc, arith, ◌||◌, ◌&&◌, not, Option, Some, None, is_some, unwrap_or}
use Rattle.plain_values.proofs.Common.{option_map, Contains, list_any, slice_index_or, eq_by_cmp, is_eq, eq_by_cmp_equiv, tied_itself, nat_list_cmp_total, nat_list_eq_equiv, list_any-append, false≢true, or_parts, bytes_cmp, exact, is_tie}
use Rattle.std.specs.Cmp.Lexicographic.{lists_equiv}
use Rattle.std.specs.FinMap as finmap
use Rattle.plain_values.specs.SortedSet as set
use Rattle.lens_specs.specs.Common.{TableDelta, Tables, Name, Names, Columns}
use Rattle.base_index.specs.Held.{AllApply, IsNew, IsThere, State, after, defined, indexes_in, is_indexed, no_relation, relation_in, with_deltas, with_table}
use Rattle.base_index.specs.Need.{has_cols, is_fresh, same_name, same_names, with_need, with_needs}
use Rattle.base_index.specs.declared.need.Need.{Need}
use Rattle.base_index.proofs.Defining.{get_indexes}
use Rattle.base_index.proofs.Fields.{same_is}

itself : (n : Name) → eq_by_cmp bytes_cmp n n ≡ true
itself n = ap is_eq (tied_itself nat_list_cmp_total n)

-- ---- definitions

-- the new table has no row
pub get_new : (t : Name × Columns) (needs : List Need) (st : State)
    → finmap.get (defined (Some t) needs st).relations t.0 ≡ Some (record { columns = t.1; rows = set.empty })
get_new t needs st =
    finmap.get-insert nat_list_cmp_total st.relations t.0 (record { columns = t.1; rows = set.empty }) t.0
    ∙ ap (λ b. cond b (Some (record { columns = t.1; rows = set.empty })) (finmap.get st.relations t.0)) (itself t.0)

pub there_new : (t : Name × Columns) (needs : List Need) (st : State) → IsThere (defined (Some t) needs st) t.0
there_new t needs st = ap is_some (get_new t needs st)

pub relation_new : (t : Name × Columns) (needs : List Need) (st : State)
    → relation_in (defined (Some t) needs st).relations t.0 ≡ record { columns = t.1; rows = set.empty }
relation_new t needs st = ap (λ o. unwrap_or o no_relation) (get_new t needs st)

-- a table that was there is as it was
pub get_old : (table : Option (Name × Columns)) (needs : List Need) (st : State) (q : Name) → IsNew table st → IsThere st q
    → finmap.get (defined table needs st).relations q ≡ finmap.get st.relations q
get_old None needs st q new there = refl
get_old (Some t) needs st q new there =
    finmap.get-insert nat_list_cmp_total st.relations t.0 (record { columns = t.1; rows = set.empty }) q
    ∙ elim (eq_by_cmp bytes_cmp q t.0) as (λ b. eq_by_cmp bytes_cmp q t.0 ≡ b
    → cond b (Some (record { columns = t.1; rows = set.empty })) (finmap.get st.relations q) ≡ finmap.get st.relations q) [
      | true ↦ λ tie. absurd (false≢true (sym new ∙ ap (λ n. is_some (finmap.get st.relations n)) (sym (exact q t.0 (is_tie _ tie))) ∙ there))
      | false ↦ λ _. refl
    ] refl

-- the indexes of a table that is there after a definition
pub indexes_defined : (table : Option (Name × Columns)) (needs : List Need) (st : State) (q : Name) → IsThere (defined table needs st) q
    → indexes_in (defined table needs st) q ≡ with_needs q needs (indexes_in (with_table table st) q)
indexes_defined table needs st q there =
    let ixs = with_needs q needs (indexes_in (with_table table st) q) in
    ap (λ o. unwrap_or o []) (get_indexes needs (with_table table st) q)
    ∙ elim (finmap.get (with_table table st).relations q) as (λ o. finmap.get (with_table table st).relations q ≡ o → unwrap_or (option_map (λ _. ixs) o) [] ≡ ixs) [
      | None ↦ λ none. absurd (false≢true (sym (ap is_some none) ∙ there))
      | (Some r) ↦ λ _. refl
    ] refl

or_true : (b : Bool) → (b || true) ≡ true
or_true true = refl
or_true false = refl

kept_one : (table : Name) (need : Need) (C : Names) (ixs : List Names) → has_cols ixs C ≡ true → has_cols (with_need table need ixs) C ≡ true
kept_one table need C ixs h = elim (is_fresh table ixs need) as (λ b. has_cols (cond b (ixs ++ need.cols ∷ []) ixs) C ≡ true) [
  | true ↦ list_any-append (λ D. same_names D C) ixs (need.cols ∷ []) ∙ ap (λ b. b || (same_names need.cols C || false)) h
  | false ↦ h
]

-- no index goes
pub kept : (table : Name) (needs : List Need) (C : Names) (ixs : List Names) → has_cols ixs C ≡ true → has_cols (with_needs table needs ixs) C ≡ true
kept table [] C ixs h = h
kept table (need ∷ needs) C ixs h = kept table needs C (with_need table need ixs) (kept_one table need C ixs h)

same_set : (C : Names) → same_names C C ≡ true
same_set C = (lists_equiv nat_list_eq_equiv).refl (set.items C)

now_met : (need : Need) (ixs : List Names) (b c : Bool) → has_cols ixs need.cols ≡ b → c ≡ true → has_cols (cond (c && not b) (ixs ++ need.cols ∷ []) ixs) need.cols ≡ true
now_met need ixs true true there same = there
now_met need ixs false true there same =
    list_any-append (λ D. same_names D need.cols) ixs (need.cols ∷ []) ∙ ap (λ b. has_cols ixs need.cols || (b || false)) (same_set need.cols) ∙ or_true (has_cols ixs need.cols)
now_met need ixs b false there same = absurd (false≢true same)

-- each need is met
pub met : (needs : List Need) (i : ℕ) (need : Need) (ixs : List Names) → i < length needs → need ≡ get_or needs i need → has_cols (with_needs need.table needs ixs) need.cols ≡ true
met [] i need ixs l e = absurd (omega arith)
met (n ∷ ns) zero need ixs l e =
    kept need.table ns need.cols (with_need need.table n ixs)
    (ap (λ m. has_cols (with_need need.table m ixs) need.cols) (sym e)
    ∙ now_met need ixs (has_cols ixs need.cols) (same_name need.table need.table) refl (nat_list_eq_equiv.refl need.table))
met (n ∷ ns) (suc i) need ixs l e = met ns i need (with_need need.table n ixs) (omega arith) e

-- after a definition a table may be asked as each need says
pub indexed : (table : Option (Name × Columns)) (needs : List Need) (st : State) (i : ℕ) (need : Need) → i < length needs → need ≡ get_or needs i need
    → IsThere (defined table needs st) need.table → is_indexed (defined table needs st) need.table need.cols ≡ true
indexed table needs st i need l e there =
    ap (λ ixs. has_cols ixs need.cols) (indexes_defined table needs st need.table there) ∙ met needs i need (indexes_in (with_table table st) need.table) l e

any_at : (ixs : List Names) (C : Names) (k : ℕ) → k < length ixs → slice_index_or ixs k C ≡ C → has_cols ixs C ≡ true
any_at [] C k l e = absurd (omega arith)
any_at (D ∷ Ds) C zero l e = ap (λ E. same_names E C || has_cols Ds C) e ∙ ap (λ b. b || has_cols Ds C) (same_set C)
any_at (D ∷ Ds) C (suc k) l e = ap (λ b. same_names D C || b) (any_at Ds C k (omega arith) e) ∙ or_true (same_names D C)

-- a table may be asked by each set of its list
pub asked : (st : State) (t : Name) (C : Names) → Contains (indexes_in st t) C → is_indexed st t C ≡ true
asked st t C h = any_at (indexes_in st t) C h.0 h.1 h.2

old_indexes : (table : Option (Name × Columns)) (st : State) (q : Name) → IsNew table st → IsThere st q → indexes_in (with_table table st) q ≡ indexes_in st q
old_indexes None st q new there = refl
old_indexes (Some t) st q new there = ap (λ o. unwrap_or o []) (
    finmap.get-insert nat_list_cmp_total st.indexes t.0 [] q
    ∙ elim (eq_by_cmp bytes_cmp q t.0) as (λ b. eq_by_cmp bytes_cmp q t.0 ≡ b
    → cond b (Some []) (finmap.get st.indexes q) ≡ finmap.get st.indexes q) [
      | true ↦ λ tie. absurd (false≢true (sym new ∙ ap (λ n. is_some (finmap.get st.relations n)) (sym (exact q t.0 (is_tie _ tie))) ∙ there))
      | false ↦ λ _. refl
    ] refl)

-- by what a table may be asked, it may be asked after a definition
pub still_indexed : (table : Option (Name × Columns)) (needs : List Need) (st : State) (t : Name) (C : Names) → IsNew table st → IsThere st t
    → is_indexed st t C ≡ true → is_indexed (defined table needs st) t C ≡ true
still_indexed table needs st t C new there h =
    ap (λ ixs. has_cols ixs C) (indexes_defined table needs st t (ap is_some (get_old table needs st t new there) ∙ there))
    ∙ kept t needs C (indexes_in (with_table table st) t) (ap (λ ixs. has_cols ixs C) (old_indexes table st t new there) ∙ h)

-- ---- differences

-- a table that no difference names stays
pub get_other : (cs : List TableDelta) (T : Tables) (q : Name) → list_any (λ c. same_name c.table q) cs ≡ false → finmap.get (with_deltas cs T) q ≡ finmap.get T q
get_other [] T q none = refl
get_other (c ∷ cs) T q none =
    let parts = or_parts (same_name c.table q) (list_any (λ d. same_name d.table q) cs) none in
    let new = after (relation_in T c.table) c.delta in
    get_other cs (finmap.insert T c.table new) q parts.1
    ∙ finmap.get-insert nat_list_cmp_total T c.table new q
    ∙ ap (λ b. cond b (Some new) (finmap.get T q)) (sym (same_is c.table q) ∙ parts.0)

-- the first difference changes its table, where no later one names it
pub get_changed : (c : TableDelta) (cs : List TableDelta) (T : Tables) → list_any (λ later. same_name later.table c.table) cs ≡ false
    → finmap.get (with_deltas (c ∷ cs) T) c.table ≡ Some (after (relation_in T c.table) c.delta)
get_changed c cs T none =
    let new = after (relation_in T c.table) c.delta in
    get_other cs (finmap.insert T c.table new) c.table none
    ∙ finmap.get-insert nat_list_cmp_total T c.table new c.table
    ∙ ap (λ b. cond b (Some new) (finmap.get T c.table)) (itself c.table)

differs_at : (t : Name) (cs : List TableDelta) (i : ℕ) (c : TableDelta) → i < length cs → c ≡ get_or cs i c
    → list_any (λ later. same_name later.table t) cs ≡ false → same_name c.table t ≡ false
differs_at t [] i c l e none = absurd (omega arith)
differs_at t (d ∷ ds) zero c l e none = ap (λ d. same_name d.table t) e ∙ (or_parts (same_name d.table t) (list_any (λ later. same_name later.table t) ds) none).0
differs_at t (d ∷ ds) (suc i) c l e none =
    differs_at t ds i c (omega arith) e (or_parts (same_name d.table t) (list_any (λ later. same_name later.table t) ds) none).1

changed_in : (cs : List TableDelta) (T old : Tables) (i : ℕ) (c : TableDelta) → i < length cs → c ≡ get_or cs i c → AllApply cs old
    → finmap.get (with_deltas cs T) c.table ≡ Some (after (relation_in T c.table) c.delta)
changed_in [] T old i c l e all = absurd (omega arith)
changed_in (d ∷ ds) T old zero c l e all =
    (λ i. finmap.get (with_deltas (d ∷ ds) T) (e i).table) ∙ get_changed d ds T all.2 ∙ (λ i. Some (after (relation_in T (sym e i).table) (sym e i).delta))
changed_in (d ∷ ds) T old (suc i) c l e all =
    let new = after (relation_in T d.table) d.delta in
    let apart = (eq_by_cmp_equiv nat_list_cmp_total).symm c.table d.table ∙ sym (same_is c.table d.table) ∙ differs_at d.table ds i c (omega arith) e all.2 in
    changed_in ds (finmap.insert T d.table new) old i c (omega arith) e all.3
    ∙ ap (λ o. Some (after (unwrap_or o no_relation) c.delta))
    (finmap.get-insert nat_list_cmp_total T d.table new c.table ∙ ap (λ b. cond b (Some new) (finmap.get T c.table)) apart)

-- each difference changes its table, and no other one does
pub changed_at : (cs : List TableDelta) (T : Tables) (i : ℕ) (c : TableDelta) → i < length cs → c ≡ get_or cs i c → AllApply cs T
    → finmap.get (with_deltas cs T) c.table ≡ Some (after (relation_in T c.table) c.delta)
changed_at cs T i c l e all = changed_in cs T T i c l e all

some_either : {X : Type 0} (b : Bool) (x : X) (o : Option X) → is_some o ≡ true → is_some (cond b (Some x) o) ≡ true
some_either true x o there = refl
some_either false x o there = there

-- no table goes by differences
pub there_after : (cs : List TableDelta) (T : Tables) (q : Name) → is_some (finmap.get T q) ≡ true → is_some (finmap.get (with_deltas cs T) q) ≡ true
there_after [] T q there = there
there_after (c ∷ cs) T q there =
    let new = after (relation_in T c.table) c.delta in
    there_after cs (finmap.insert T c.table new) q
    (ap is_some (finmap.get-insert nat_list_cmp_total T c.table new q) ∙ some_either (eq_by_cmp bytes_cmp q c.table) new (finmap.get T q) there)
