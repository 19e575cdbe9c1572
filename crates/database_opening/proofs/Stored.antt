-- Tables that are stored as they are kept.
use Rattle.std.proofs.Common.{◌≡◌, ◌∙◌, ◌++◌, ◌<◌, ℕ, zero, suc, List, [], ◌∷◌, length, get_or, map, Some, None, Ok, Err, is_some, true, ap, sym, subst, refl, arith, option_map}
use Rattle.plain_values.proofs.Common.{map_push, list_any-append, AllByRecursion, HoldsAt, eq_by_cmp, or_right, bytes_cmp, Row}
use Rattle.std.specs.FinMap as finmap
use Rattle.plain_values.specs.SortedSet as set
use Rattle.fd_laws.proofs.Common.{name_exact, name_total}
use Rattle.lens_specs.specs.Common.{Fits, Kept, Name, is_among, Rows, has, Sort}
use Rattle.server_specs.specs.Common.{Catalogue, catalogue, first_refused}
use Rattle.opening_specs.specs.Opening as opening
use Rattle.opening_specs.specs.Opening.{all_names, damage_at, definition, mapped, opened, or_damage, table_sort_of, unless_damaged}
use Rattle.opening_laws.proofs.Opened.{find-mapped, get-mapped, rows_whole, whole_among}
use Rattle.lens_laws.proofs.Common.{with_all, with_all_in_none, with_last}
use Rattle.table_keeper.specs.Changes.{names_of, rows_of}
use Rattle.table_keeper.specs.Places.{Rise, rows_in}
use Rattle.table_keeper.specs.declared.keeper.KeptTable.{KeptTable}
use Rattle.table_keeper.proofs.ByName.{rows_found}
use Rattle.database_opening.specs.Openings.{AreAdmitted, IsSound, IsDatabaseOf, damage_of_tables, damage_view}
use Rattle.database_opening.specs.declared.fault.OpenFault.{OpenFault}
use Rattle.database_opening.specs.declared.fault.OpenFault.TheVariants as fault

-- ---- tables without damage

name_here : (ts : List KeptTable) (i : ℕ) (d : KeptTable) → i < length ts → HoldsAt (λ n. n ≡ (get_or ts i d).table) (names_of ts) i
name_here [] i d l = absurd (omega arith)
name_here (t ∷ ts) zero d l = λ n. refl
name_here (t ∷ ts) (suc i) d l = name_here ts i d (omega arith)

all_of_each : (P : KeptTable → Type 0) (ts : List KeptTable) → ((i : ℕ) (d : KeptTable) → i < length ts → P (get_or ts i d)) → AllByRecursion P ts
all_of_each P [] each = tt
all_of_each P (t ∷ ts) each = (each 0 t (omega arith), all_of_each P ts (λ i d l. each (suc i) d (omega arith)))

-- a table that is kept is among all names
kept_named : (known : Catalogue) (rows : finmap.FinMap bytes_cmp Rows) (q : Name) (M : Rows) → finmap.get rows q ≡ Some M → is_among q (set.items (all_names known rows)) ≡ true
kept_named known rows q M there =
    sym (set.contains-items (all_names known rows) q) ∙ set.contains-from_list name_total (finmap.keys known ++ finmap.keys rows) q
    ∙ list_any-append (eq_by_cmp bytes_cmp q) (finmap.keys known) (finmap.keys rows)
    ∙ or_right (is_among q (finmap.keys known)) (is_among q (finmap.keys rows)) (sym (finmap.contains_key-keys rows q) ∙ ap is_some there)

-- where there is no damage, each table is sound
pub all_sound : (known : Catalogue) (ts : List KeptTable) → Rise ts → damage_of_tables known (rows_in ts) ≡ None → AllByRecursion (IsSound known) ts
all_sound known ts rise none = all_of_each (IsSound known) ts (λ i d l.
    let q = (get_or ts i d).table in
    let there = rows_found ts q i d rise l (name_here ts i d l) in
    subst (λ o. damage_at q (table_sort_of q (finmap.get known q)) o ≡ None) there
    (whole_among known (rows_in ts) (set.items (all_names known (rows_in ts))) none q (kept_named known (rows_in ts) q (get_or ts i d).rows there)))

-- the rows of a sound table fit its columns
pub sound_fits : (known : Catalogue) (t : KeptTable) (s : Sort) → IsSound known t → Some s ≡ table_sort_of t.table (finmap.get known t.table) → (r : Row) → has t.rows r ≡ true → Fits s.columns r
sound_fits known t s sound is = (rows_whole t.table s t.rows (ap (λ o. damage_at t.table o (Some t.rows)) is ∙ sound)).columns

-- ---- tables put in from the last one on

-- what f makes of each table
abbrev pub made_of : {Y : Type 0} → (Name × Rows → Y) → List KeptTable → List (Name × Y)
made_of f ts = map (λ e. (e.0, f e)) (map rows_of ts)

module _ {Y : Type 0} (f : Name × Rows → Y) where
  -- all of them, in none
  pub all_made : (ts : List KeptTable) → with_all (made_of f ts) finmap.empty ≡ mapped f (rows_in ts)
  all_made ts = with_all_in_none (made_of f ts) ∙ finmap.same_map name_total name_exact (finmap.from_entries (made_of f ts)) (mapped f (rows_in ts)) (λ q.
      finmap.get-from_entries name_total (made_of f ts) q ∙ find-mapped f q (map rows_of ts)
      ∙ sym (get-mapped f (rows_in ts) q ∙ ap (option_map (λ x. f (q, x))) (finmap.get-from_entries name_total (map rows_of ts) q)))

  -- the last of them first
  pub last_made : (ts : List KeptTable) (t : KeptTable) (db : finmap.FinMap bytes_cmp Y)
      → with_all (made_of f (ts ++ t ∷ [])) db ≡ with_all (made_of f ts) (finmap.insert db t.table (f (rows_of t)))
  last_made ts t db =
      ap (λ es. with_all es db) (ap (map (λ e. (e.0, f e))) (map_push rows_of ts t) ∙ map_push (λ e. (e.0, f e)) (map rows_of ts) (rows_of t))
      ∙ with_last (made_of f ts) (t.table, f (rows_of t)) db

-- ---- what is opened

-- the texts are refused
opened_refused : (k : Kept) (d : opening.Damage) → option_map definition (first_refused k.texts) ≡ Some d → opened k ≡ Err d
unfolding opened
opened_refused k d e = ap (λ o. unless_damaged (or_damage o (damage_of_tables (catalogue k.texts) k.rows)) k) e

-- the tables are damaged
pub opened_damaged : (k : Kept) (d : opening.Damage) → first_refused k.texts ≡ None → damage_of_tables (catalogue k.texts) k.rows ≡ Some d → opened k ≡ Err d
unfolding opened
opened_damaged k d taken e =
    ap (λ o. unless_damaged (or_damage (option_map definition o) (damage_of_tables (catalogue k.texts) k.rows)) k) taken ∙ ap (λ o. unless_damaged o k) e

-- nothing is damaged
pub opened_whole : (k : Kept) → first_refused k.texts ≡ None → damage_of_tables (catalogue k.texts) k.rows ≡ None → opened k ≡ Ok (opening.state_of k)
unfolding opened
opened_whole k taken e =
    ap (λ o. unless_damaged (or_damage (option_map definition o) (damage_of_tables (catalogue k.texts) k.rows)) k) taken ∙ ap (λ o. unless_damaged o k) e

-- definitions that are not all taken
pub admission_told : (r : OpenFault) (k : Kept) → AreAdmitted (Err r) k.texts → IsDatabaseOf (Err r) k
admission_told (fault.Damaged damage) k h = opened_refused k (damage_view damage) h
admission_told fault.NoMemory k h = tt
