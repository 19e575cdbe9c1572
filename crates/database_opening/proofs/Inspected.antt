-- The damage of tables, from what is found at each name.
use Rattle.std.proofs.Common.{◌≡◌, ◌∙◌, ◌++◌, Bool, true, false, cond, List, [], ◌∷◌, filter, Option, None, ap, sym, subst, refl, ◌↔◌, IsTrue}
use Rattle.plain_values.proofs.Common.{or_parts, list_any-append, IsStrictlySortedBy-filter, eq_by_cmp, and_comm, bytes_cmp, keys_rise, Row, same_bool, none_is}
use Rattle.std.specs.FinMap as finmap
use Rattle.plain_values.specs.SortedSet as set
use Rattle.fd_laws.proofs.Common.{name_exact, name_total}
use Rattle.lens_specs.specs.Common.{Columns, Fits, Name, Names, is_among, Rows}
use Rattle.server_specs.specs.Common.{Catalogue}
use Rattle.opening_specs.specs.Opening.{Damage, all_names, damage_among, damage_at, is_fit, or_damage, table_sort_of}
use Rattle.opening_laws.proofs.Opened.{fit_is, is_fit_from, no_keys}
use Rattle.table_keeper.specs.Changes.{names_of}
use Rattle.table_keeper.specs.Places.{rows_in}
use Rattle.table_keeper.specs.declared.keeper.KeptTable.{KeptTable}
use Rattle.table_keeper.proofs.ByName.{there_is}
use Rattle.database_opening.specs.Openings.{HasTables, damage_of_tables}

-- ---- rows that fit

-- whether a row fits, as it is told
pub fits_told : (U V : Columns) (row : Row) (b : Bool) → V ≡ U → (IsTrue b ↔ Fits V row) → b ≡ is_fit U row
fits_told U V row b same told = same_bool b (is_fit U row) (λ e. is_fit_from U row (subst (λ W. Fits W row) same (told.0 e))) (λ e. told.1 (subst (λ W. Fits W row) (sym same) (fit_is U row e)))

-- ---- the members of two sets

-- the list of the members that pass
filter-items : (p : Name → Bool) (S : Names) → set.items (set.filter p S) ≡ filter p (set.items S)
filter-items p S =
    ap set.items (sym (set.from_list-filter name_total name_exact p S))
    ∙ set.items-from_list name_total (filter p (set.items S)) (IsStrictlySortedBy-filter bytes_cmp p (set.items S) (keys_rise bytes_cmp S))

-- the members of S that are in T are those of T that are in S
shared_turned : (S T : Names) → filter (set.contains T) (set.items S) ≡ filter (set.contains S) (set.items T)
shared_turned S T =
    sym (filter-items (set.contains T) S)
    ∙ ap set.items (set.same_set name_total name_exact (set.filter (set.contains T) S) (set.filter (set.contains S) T) (λ q.
    set.contains-filter name_total name_exact (set.contains T) S q ∙ and_comm (set.contains S q) (set.contains T q)
    ∙ sym (set.contains-filter name_total name_exact (set.contains S) T q)))
    ∙ filter-items (set.contains S) T

-- ---- names without damage

-- there is no damage at the name
abbrev IsWhole : Catalogue → finmap.FinMap bytes_cmp Rows → Name → Type 0
IsWhole known rows q = damage_at q (table_sort_of q (finmap.get known q)) (finmap.get rows q) ≡ None

module _ (known : Catalogue) (rows : finmap.FinMap bytes_cmp Rows) where
  -- the damage at the name
  abbrev at : Name → Option Damage
  at q = damage_at q (table_sort_of q (finmap.get known q)) (finmap.get rows q)

  -- names without damage can be left out
  left_out : (p : Name → Bool) (ns : List Name) → ((q : Name) → p q ≡ false → IsWhole known rows q) → damage_among known rows (filter p ns) ≡ damage_among known rows ns
  left_out p [] whole = refl
  left_out p (n ∷ ns) whole = elim (p n) as (λ b. p n ≡ b → damage_among known rows (cond b (n ∷ filter p ns) (filter p ns)) ≡ or_damage (at n) (damage_among known rows ns)) [
    | true ↦ λ _. ap (or_damage (at n)) (left_out p ns whole)
    | false ↦ λ out. left_out p ns whole ∙ sym (ap (λ d. or_damage d (damage_among known rows ns)) (whole n out))
  ] refl

  -- two sets, outside of which there is no damage, have the same first damage
  same_damage : (S T : Names) → ((q : Name) → set.contains S q ≡ false → IsWhole known rows q) → ((q : Name) → set.contains T q ≡ false → IsWhole known rows q)
      → damage_among known rows (set.items S) ≡ damage_among known rows (set.items T)
  same_damage S T outside_S outside_T =
      sym (left_out (set.contains T) (set.items S) outside_T) ∙ ap (damage_among known rows) (shared_turned S T) ∙ left_out (set.contains S) (set.items T) outside_S

  whole_from : (q : Name) → table_sort_of q (finmap.get known q) ≡ None → finmap.get rows q ≡ None → IsWhole known rows q
  whole_from q sort kept = (λ i. damage_at q (sort i) (kept i))

  -- there is none outside of all names
  outside_all : (q : Name) → set.contains (all_names known rows) q ≡ false → IsWhole known rows q
  outside_all q out =
      let w = no_keys known rows q (sym (set.contains-from_list name_total (finmap.keys known ++ finmap.keys rows) q) ∙ out) in
      whole_from q (ap (table_sort_of q) w.0) w.1

-- there is none outside of the names of the tables that are defined or kept
outside_tables : (known : Catalogue) (defined : List Name) (ts : List KeptTable) → HasTables known defined
    → (q : Name) → set.contains (set.from_list {R = bytes_cmp} (defined ++ names_of ts)) q ≡ false → IsWhole known (rows_in ts) q
outside_tables known defined ts has q out =
    let both = or_parts (is_among q defined) (is_among q (names_of ts))
    (sym (list_any-append (eq_by_cmp bytes_cmp q) defined (names_of ts)) ∙ sym (set.contains-from_list name_total (defined ++ names_of ts) q) ∙ out) in
    whole_from known (rows_in ts) q (has q both.0) (none_is (finmap.get (rows_in ts) q) (there_is ts q ∙ both.1))

-- the first damage at the names of the tables is the first of all
pub damage_found : (known : Catalogue) (defined : List Name) (ts : List KeptTable) → HasTables known defined
    → damage_among known (rows_in ts) (set.items (set.from_list {R = bytes_cmp} (defined ++ names_of ts))) ≡ damage_of_tables known (rows_in ts)
damage_found known defined ts has =
    same_damage known (rows_in ts) (set.from_list (defined ++ names_of ts)) (all_names known (rows_in ts)) (outside_tables known defined ts has) (outside_all known (rows_in ts))
