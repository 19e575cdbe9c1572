-- The differences of an edit, gathered by name, are the changes of the put.
use Rattle.std.proofs.Common.{◌≡◌, Bool, true, false, cond, not, ◌&&◌, ◌||◌, List, [], ◌∷◌, ◌++◌, map, refl, sym, ap, ◌∙◌, Option, Some, None, if◌then◌else◌}
use Rattle.plain_values.proofs.Common.{list_any-append, Less, AllByRecursion, list_any, IsStrictlySortedBy, eq_by_cmp, bytes_cmp, entries-from_entries, keys_of, keys_rise}
use Rattle.std.specs.FinMap as finmap
use Rattle.plain_values.specs.SortedSet as set
use Rattle.lens_specs.specs.Common.{Delta, TableDelta, changes, diff, differences, is_empty, Lens, Tables, base, select, drop, rename, get, put, sort_of, table, tables_of, view_names, Name, Names, join}
use Rattle.fd_laws.proofs.Common.{name_exact, name_total, tied_name}
use Rattle.lens_laws.proofs.Common.{AreDiffs, table_deltas, left_delta, right_delta, AreOf, IsTyped}
use Rattle.lens_laws.proofs.Edits.{table_deltas_are}
use Rattle.lens_chain.specs.Changed.{Changed, in_order, of_entry, with_change, with_changes}
use Rattle.lens_chain.specs.Edits.{IsEdit, edited}

-- one list of differences after another
pub with_both : (ds es : List TableDelta) (m : Changed) → with_changes (ds ++ es) m ≡ with_changes es (with_changes ds m)
with_both [] es m = refl
with_both (d ∷ ds) es m = with_both ds es (with_change d m)

either : (a b n : Bool) (x later : Option Delta) → cond (b && n) x (cond (a && n) x later) ≡ cond ((a || b) && n) x later
either true true true x later = refl
either true true false x later = refl
either true false true x later = refl
either true false false x later = refl
either false true n x later = refl
either false false n x later = refl

never : (b : Bool) (x later : Option Delta) → cond (b && false) x later ≡ later
never true x later = refl
never false x later = refl

-- the entries of differences
abbrev entries_of : List TableDelta → List (Name × Delta)
entries_of ds = map (λ d. (d.table, d.delta)) ds

read_back : (ds : List TableDelta) → map of_entry (entries_of ds) ≡ ds
read_back [] = refl
read_back (d ∷ ds) = ap (λ es. d ∷ es) (read_back ds)

module _ (old new : Tables) where
  -- how the table differs
  abbrev change : Name → Delta
  change t = diff (table old t) (table new t)

  -- what a map has at t once the difference of t, if it is not empty, is put in or not
  abbrev at_table : Bool → Name → Option Delta → Option Delta
  at_table among t later = cond (among && not (is_empty (change t))) (Some (change t)) later

  empty_skipped : (among : Bool) (t : Name) (later : Option Delta) → is_empty (change t) ≡ true → at_table among t later ≡ later
  empty_skipped among t later e = ap (λ b. cond (among && not b) (Some (change t)) later) e ∙ never among (Some (change t)) later

  filled_taken : (t : Name) (later : Option Delta) → is_empty (change t) ≡ false → at_table true t later ≡ Some (change t)
  filled_taken t later e = ap (λ b. cond (not b) (Some (change t)) later) e

  with_one : (x : TableDelta) (m : Changed) (t : Name) → x.delta ≡ change x.table → finmap.get (with_change x m) t ≡ at_table (eq_by_cmp bytes_cmp t x.table) t (finmap.get m t)
  with_one x m t is =
      let same : eq_by_cmp bytes_cmp t x.table ≡ true → x.delta ≡ change t = λ tie. is ∙ ap change (sym (tied_name t x.table tie)) in
      elim (is_empty x.delta) as (λ b. is_empty x.delta ≡ b → finmap.get (if b then m else finmap.insert m x.table x.delta) t ≡ at_table (eq_by_cmp bytes_cmp t x.table) t (finmap.get m t)) [
        | true ↦ λ e. elim (eq_by_cmp bytes_cmp t x.table) as (λ c. eq_by_cmp bytes_cmp t x.table ≡ c → finmap.get m t ≡ at_table c t (finmap.get m t)) [
          | true ↦ λ tie. sym (empty_skipped true t (finmap.get m t) (ap is_empty (sym (same tie)) ∙ e))
          | false ↦ λ _. refl
        ] refl
        | false ↦ λ e. finmap.get-insert name_total m x.table x.delta t
            ∙ elim (eq_by_cmp bytes_cmp t x.table) as (λ c. eq_by_cmp bytes_cmp t x.table ≡ c → cond c (Some x.delta) (finmap.get m t) ≡ at_table c t (finmap.get m t)) [
              | true ↦ λ tie. ap Some (same tie) ∙ sym (filled_taken t (finmap.get m t) (ap is_empty (sym (same tie)) ∙ e))
              | false ↦ λ _. refl
            ] refl
      ] refl

  -- what is there after all of them
  gathered : (ds : List TableDelta) (m : Changed) (t : Name) → AreDiffs old new ds
      → finmap.get (with_changes ds m) t ≡ at_table (list_any (λ x. eq_by_cmp bytes_cmp t x.table) ds) t (finmap.get m t)
  gathered [] m t h = refl
  gathered (x ∷ xs) m t h =
      gathered xs (with_change x m) t h.1
      ∙ ap (at_table (list_any (λ x. eq_by_cmp bytes_cmp t x.table) xs) t) (with_one x m t h.0)
      ∙ either (eq_by_cmp bytes_cmp t x.table) (list_any (λ x. eq_by_cmp bytes_cmp t x.table) xs) (not (is_empty (change t))) (Some (change t)) (finmap.get m t)

  -- what the differences of these tables have there
  found : (ts : List Name) (t : Name) → finmap.find bytes_cmp t (entries_of (differences ts old new)) ≡ at_table (list_any (eq_by_cmp bytes_cmp t) ts) t None
  found [] t = refl
  found (u ∷ ts) t =
      let same : eq_by_cmp bytes_cmp t u ≡ true → change u ≡ change t = λ tie. ap change (sym (tied_name t u tie)) in
      let rest = differences ts old new in
      let later = list_any (eq_by_cmp bytes_cmp t) ts in
      elim (is_empty (change u)) as (λ b. is_empty (change u) ≡ b → finmap.find bytes_cmp t (entries_of (if b then rest else record { table = u; delta = change u } ∷ rest)) ≡ at_table (eq_by_cmp bytes_cmp t u || later) t None) [
        | true ↦ λ e. found ts t ∙ elim (eq_by_cmp bytes_cmp t u) as (λ c. eq_by_cmp bytes_cmp t u ≡ c → at_table later t None ≡ at_table (c || later) t None) [
          | true ↦ λ tie. let none = ap is_empty (sym (same tie)) ∙ e in empty_skipped later t None none ∙ sym (empty_skipped true t None none)
          | false ↦ λ _. refl
        ] refl
        | false ↦ λ e. elim (eq_by_cmp bytes_cmp t u) as (λ c. eq_by_cmp bytes_cmp t u ≡ c → cond c (Some (change u)) (finmap.find bytes_cmp t (entries_of rest)) ≡ at_table (c || later) t None) [
          | true ↦ λ tie. ap Some (same tie) ∙ sym (filled_taken t None (ap is_empty (sym (same tie)) ∙ e))
          | false ↦ λ _. found ts t
        ] refl
      ] refl

  all_above : (u : Name) (ts : List Name) → AllByRecursion (λ t. bytes_cmp u t ≡ Less) ts → AllByRecursion (λ t. bytes_cmp u t ≡ Less) (keys_of (entries_of (differences ts old new)))
  all_above u [] h = tt
  all_above u (t ∷ ts) h =
      let rest = differences ts old new in
      elim (is_empty (change t)) as (λ b. AllByRecursion (λ t. bytes_cmp u t ≡ Less) (keys_of (entries_of (if b then rest else record { table = t; delta = change t } ∷ rest)))) [
        | true ↦ all_above u ts h.1
        | false ↦ (h.0, all_above u ts h.1)
      ]

  -- the differences of rising tables rise
  rise : (ts : List Name) → IsStrictlySortedBy bytes_cmp ts → IsStrictlySortedBy bytes_cmp (keys_of (entries_of (differences ts old new)))
  unfolding IsStrictlySortedBy
  rise [] h = tt
  rise (t ∷ ts) h =
      let rest = differences ts old new in
      elim (is_empty (change t)) as (λ b. IsStrictlySortedBy bytes_cmp (keys_of (entries_of (if b then rest else record { table = t; delta = change t } ∷ rest)))) [
        | true ↦ rise ts h.1
        | false ↦ (all_above t ts h.0, rise ts h.1)
      ]

  -- a map that has just the differences of these tables that are not empty lists them
  listed : (T : Names) (m : Changed) → ((t : Name) → finmap.get m t ≡ at_table (set.contains T t) t None) → in_order m ≡ differences (set.items T) old new
  listed T m h =
      let ds = differences (set.items T) old new in
      let es = entries_of ds in
      let same : m ≡ finmap.from_entries es = finmap.same_map name_total name_exact m (finmap.from_entries es) (λ t.
      h t ∙ ap (λ b. at_table b t None) (set.contains-items T t) ∙ sym (found (set.items T) t) ∙ sym (finmap.get-from_entries name_total es t)) in
      ap in_order same
      ∙ ap (map of_entry) (entries-from_entries bytes_cmp name_total es (rise (set.items T) (keys_rise bytes_cmp T)))
      ∙ read_back ds

-- the tables that have a difference are those of the lens
stands : (L : Lens) (d : Delta) (db : Tables) (t : Name) → list_any (λ x. eq_by_cmp bytes_cmp t x.table) (table_deltas L d db) ≡ set.contains (tables_of L) t
unfolding tables_of table_deltas
stands (base u s) d db t = sym (set.contains-insert name_total set.empty u t ∙ ap (λ b. eq_by_cmp bytes_cmp t u || b) (set.contains-empty bytes_cmp t))
stands (select P C) d db t = stands C _ db t
stands (drop A X a C) d db t = stands C _ db t
stands (rename A B C) d db t = stands C _ db t
stands (join kind A B) d db t =
    let U = view_names A in let V = view_names B in
    let F = (sort_of A).tree in let G = (sort_of B).tree in
    let left = left_delta kind U V F G (get A db) (get B db) (edited (join kind A B) db d) d in
    let right = right_delta kind U V F G (get A db) (get B db) (edited (join kind A B) db d) d in
    list_any-append (λ x. eq_by_cmp bytes_cmp t x.table) (table_deltas A left db) (table_deltas B right db)
    ∙ (λ i. stands A left db t i || stands B right db t i)
    ∙ sym (set.contains-union name_total (tables_of A) (tables_of B) t)

pub changes_gathered : (L : Lens) (db : Tables) → IsTyped L → AreOf L db → (d : Delta) → IsEdit L db d → in_order (with_changes (table_deltas L d db) finmap.empty) ≡ changes L (edited L db d) db
changes_gathered L db typed are d edit =
    let new = put L (edited L db d) db in
    let ds = table_deltas L d db in
    listed db new (tables_of L) (with_changes ds finmap.empty) (λ t.
    gathered db new ds finmap.empty t (table_deltas_are L db typed are d edit.0 edit.1)
    ∙ (λ i. at_table db new (stands L d db t i) t (finmap.get-empty {X = Delta} bytes_cmp t i)))
