-- The differences of tables lead from the old ones to the new ones, and taken back they lead to the old ones again.
use Rattle.std.proofs.Common.{◌≡◌, ◌∙◌, Bool, true, false, cond, List, [], ◌∷◌, Some, is_some, length, ap, sym, subst, refl, nat_eq, unwrap_or}
use Rattle.std.specs.FinMap as finmap
use Rattle.plain_values.proofs.Common.{eq_by_cmp, and_comm, bytes_cmp, Row, in_head, in_tail, option_map, AllByRecursion, IsStrictlySortedBy}
use Rattle.plain_values.specs.SortedSet as set
use Rattle.fd_laws.proofs.Common.{name_exact, name_itself, name_total, tied_name, from_minus}
use Rattle.lens_laws.proofs.Common.{diff_applies, diff_leads, AllThere}
use Rattle.lens_specs.specs.Common.{Fits, AppliesTo, TableDelta, diff, differences, is_empty, Tables, rows_or_none, table, Name, is_among, Relation, Rows, has, minus, AllApply, LeadTo, after, inverted, no_relation, with_deltas, relation_in}
use Rattle.lens_specs.specs.TableDeltas.{inverse_of}
use Rattle.lens_laws.proofs.Alone.{difference_deltas, differences_for}
use Rattle.lens_laws.proofs.Moves.{Apart, get_moved, map_nothing, nothing, rising_apart}

-- the table is there before and after, with the same columns, which its rows fit
pub record IsAlike (old new : Tables) (t : Name) : Type 0 where
  pub before : Relation
  pub later : Relation
  pub was : finmap.get old t ≡ Some before
  pub is : finmap.get new t ≡ Some later
  pub columns : later.columns ≡ before.columns
  pub before_fits : (r : Row) → has before.rows r ≡ true → Fits before.columns r
  pub later_fits : (r : Row) → has later.rows r ≡ true → Fits later.columns r

-- the tables of the list are alike, and the others are the same
pub record Differ (ts : List Name) (old new : Tables) : Type 0 where
  pub alike : (t : Name) → is_among t ts ≡ true → IsAlike old new t
  pub others : (t : Name) → is_among t ts ≡ false → finmap.get new t ≡ finmap.get old t

-- what holds of the difference of each table in the list holds of each of the differences
pub each_of : (P : TableDelta → Type 0) (old new : Tables) (ts : List Name) → ((t : Name) → is_among t ts ≡ true → P (record { table = t; delta = diff (table old t) (table new t) }))
    → AllByRecursion P (differences ts old new)
each_of P old new [] h = tt
each_of P old new (t ∷ ts) h =
    let rest = each_of P old new ts (λ u i. h u (in_tail (eq_by_cmp bytes_cmp) tied_name name_itself u t ts i)) in
    elim (is_empty (diff (table old t) (table new t))) as (λ b. AllByRecursion P (cond b (differences ts old new) (record { table = t; delta = diff (table old t) (table new t) } ∷ differences ts old new))) [
      | true ↦ rest
      | false ↦ (h t (in_head (eq_by_cmp bytes_cmp) tied_name name_itself t ts), rest)
    ]

pub are_there : (cs : List TableDelta) (db : Tables) → AllByRecursion (λ c. is_some (finmap.get db c.table) ≡ true) cs → AllThere cs db
are_there [] db h = tt
are_there (c ∷ cs) db h = (h.0, are_there cs db h.1)

all_apply : (cs : List TableDelta) (db : Tables) → Apart cs → AllThere cs db → AllByRecursion (λ c. AppliesTo c.delta (relation_in db c.table)) cs → AllApply cs db
all_apply [] db apart there each = tt
all_apply (c ∷ cs) db apart there each = (there.0, each.0, apart.0, all_apply cs db apart.1 there.1 each.1)

module _ (old new : Tables) (t : Name) (a : IsAlike old new t) where
  change_is : diff (table old t) (table new t) ≡ diff a.before.rows a.later.rows
  change_is = (λ i. diff (rows_or_none (a.was i)) (rows_or_none (a.is i)))

  -- the table after its difference is the new one
  changed_is : option_map (λ r. after r (diff (table old t) (table new t))) (finmap.get old t) ≡ finmap.get new t
  changed_is =
      ap (option_map (λ r. after r (diff (table old t) (table new t)))) a.was ∙ ap (λ d. Some (after a.before d)) change_is
      ∙ (λ i. Some (record { columns = sym a.columns i; rows = diff_leads a.before.rows a.later.rows i })) ∙ sym a.is

  -- its difference applies to it
  applies : AppliesTo (diff (table old t) (table new t)) (relation_in old t)
  unfolding diff
  applies =
      let to : AppliesTo (diff a.before.rows a.later.rows) a.before =
      (diff_applies a.before.rows a.later.rows, λ r i. subst (λ U. Fits U r) a.columns (a.later_fits r (from_minus a.later.rows a.before.rows r i).0)) in
      subst (λ d. AppliesTo d (relation_in old t)) (sym change_is) (subst (AppliesTo (diff a.before.rows a.later.rows)) (sym (ap (λ o. unwrap_or o no_relation) a.was)) to)

-- what the differences make of the old tables, name by name
pub get_differences : (ts : List Name) (old new : Tables) → IsStrictlySortedBy bytes_cmp ts → ((t : Name) → is_among t ts ≡ true → is_some (finmap.get old t) ≡ true)
    → (q : Name) → finmap.get (with_deltas (differences ts old new) old) q ≡ option_map (λ r. after r (cond (is_among q ts) (diff (table old q) (table new q)) nothing)) (finmap.get old q)
get_differences ts old new rise there q =
    let cs = differences ts old new in
    get_moved cs old (rising_apart cs (difference_deltas old new ts rise)) (are_there cs old (each_of (λ c. is_some (finmap.get old c.table) ≡ true) old new ts there)) q
    ∙ ap (λ d. option_map (λ r. after r d) (finmap.get old q)) (differences_for old new ts q)

-- the differences lead from the old tables to the new ones
pub differences_lead : (ts : List Name) (old new : Tables) → IsStrictlySortedBy bytes_cmp ts → Differ ts old new → LeadTo (differences ts old new) old new
differences_lead ts old new rise d =
    let cs = differences ts old new in
    let there : (t : Name) → is_among t ts ≡ true → is_some (finmap.get old t) ≡ true = λ t i. ap is_some (d.alike t i).was in (
      all_apply cs old (rising_apart cs (difference_deltas old new ts rise)) (are_there cs old (each_of (λ c. is_some (finmap.get old c.table) ≡ true) old new ts there))
          (each_of (λ c. AppliesTo c.delta (relation_in old c.table)) old new ts (λ t i. applies old new t (d.alike t i))),
      finmap.same_map name_total name_exact _ _ (λ q. get_differences ts old new rise there q
          ∙ elim (is_among q ts) as (λ b. is_among q ts ≡ b → option_map (λ r. after r (cond b (diff (table old q) (table new q)) nothing)) (finmap.get old q) ≡ finmap.get new q) [
            | true ↦ λ i. changed_is old new q (d.alike q i)
            | false ↦ λ o. map_nothing (finmap.get old q) ∙ sym (d.others q o)
          ] refl),
    )

-- ---- back

turned : (old new : Tables) (t : Name) → IsAlike old new t → IsAlike new old t
turned old new t a = record { before = a.later; later = a.before; was = a.is; is = a.was; columns = sym a.columns; before_fits = a.later_fits; later_fits = a.before_fits }

empty_either_way : (A B : Rows) → is_empty (diff A B) ≡ is_empty (diff B A)
unfolding diff
empty_either_way A B = and_comm (nat_eq (length (set.items (minus A B))) 0) (nat_eq (length (set.items (minus B A))) 0)

chosen : (b : Bool) (c d : TableDelta) (cs ds : List TableDelta) → inverse_of c ≡ d → inverted cs ≡ ds → inverted (cond b cs (c ∷ cs)) ≡ cond b ds (d ∷ ds)
chosen true c d cs ds first rest = rest
chosen false c d cs ds first rest = λ i. first i ∷ rest i

-- the differences the other way round are the inverse ones
pub inverted_differences : (ts : List Name) (old new : Tables) → inverted (differences ts old new) ≡ differences ts new old
unfolding diff
inverted_differences [] old new = refl
inverted_differences (t ∷ ts) old new =
    chosen (is_empty (diff (table old t) (table new t))) (record { table = t; delta = diff (table old t) (table new t) }) (record { table = t; delta = diff (table new t) (table old t) })
    (differences ts old new) (differences ts new old) refl (inverted_differences ts old new)
    ∙ ap (λ b. cond b (differences ts new old) (record { table = t; delta = diff (table new t) (table old t) } ∷ differences ts new old)) (empty_either_way (table old t) (table new t))

-- taken back, the differences lead from the new tables to the old ones
pub differences_back : (ts : List Name) (old new : Tables) → IsStrictlySortedBy bytes_cmp ts → Differ ts old new → LeadTo (inverted (differences ts old new)) new old
differences_back ts old new rise h = subst (λ cs. LeadTo cs new old) (sym (inverted_differences ts old new))
    (differences_lead ts new old rise (record { alike = λ t i. turned old new t (h.alike t i); others = λ t o. sym (h.others t o) }))
