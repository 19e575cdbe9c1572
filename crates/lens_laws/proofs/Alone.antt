-- One list of differences alone leads from some tables to others.
use Rattle.std.proofs.Common.{◌≡◌, ◌∙◌, ◌||◌, arith, Bool, true, false, cond, List, [], ◌∷◌, map, Option, Some, None, is_some, ap, sym, refl, unwrap_or}
use Rattle.plain_values.proofs.Common.{option_map, and_parts, and_from, AllByRecursion, list_all, IsStrictlySortedBy, eq_by_cmp, is_lt, Less, bytes_cmp, row_cmp, entries-from_entries, keys_of, keys_rise, is_less}
use Rattle.std.specs.FinMap as finmap
use Rattle.plain_values.specs.SortedSet as set
use Rattle.fd_laws.proofs.Common.{sets, name_exact, name_total, tied_name}
use Rattle.lens_laws.proofs.Deltas.{applies_is}
use Rattle.lens_specs.specs.Common.{AppliesTo, Delta, TableDelta, diff, differences, is_empty, Tables, rows_or_none, table, Name, is_among, Relation, Rows, minus, AreDeltas, LeadTo, after, no_relation, delta_for}
use Rattle.lens_laws.proofs.Moves.{absent_nothing, all_there, empty_is, lead_moves, nothing, nothing_empty, same_rows}

-- ---- what each table's difference is

pub no_diff : (M : Rows) → diff M M ≡ nothing
unfolding diff
no_diff M = let none : minus M M ≡ set.empty = same_rows (minus M M) set.empty (λ x. grind (arith, sets, set.contains-empty row_cmp x)) in λ i. record { remove = none i; add = none i }

own_diff : (d : Delta) (o p : Option Relation) → AppliesTo d (unwrap_or o no_relation) → p ≡ option_map (λ r. after r d) o → (is_some o ≡ false → d ≡ nothing) → d ≡ diff (rows_or_none o) (rows_or_none p)
own_diff d None p applies is none = none refl ∙ sym (no_diff set.empty) ∙ ap (λ x. diff set.empty (rows_or_none x)) (sym is)
own_diff d (Some r) p applies is none = applies_is r.rows d applies.0 ∙ ap (λ x. diff r.rows (rows_or_none x)) (sym is)

-- in a list that leads there, each table has what differs in it
pub each_differs : (ds : List TableDelta) (a b : Tables) → LeadTo ds a b → (q : Name) → delta_for q ds ≡ diff (table a q) (table b q)
each_differs ds a b leads q =
    let move = lead_moves ds a b leads q in
    own_diff (delta_for q ds) (finmap.get a q) (finmap.get b q) move.0 move.1 (absent_nothing ds a (all_there ds a leads.0) q)

-- ---- lists by rising names, without an empty difference

abbrev pair_of : TableDelta → Name × Delta
pair_of c = (c.table, c.delta)

abbrev of_pair : Name × Delta → TableDelta
of_pair p = record { table = p.0; delta = p.1 }

of_pairs : (ds : List TableDelta) → map of_pair (map pair_of ds) ≡ ds
of_pairs [] = refl
of_pairs (c ∷ cs) = ap (λ l. c ∷ l) (of_pairs cs)

-- what the list has of a table
found_is : (ds : List TableDelta) → AreDeltas ds → (q : Name) → finmap.find bytes_cmp q (map pair_of ds) ≡ cond (is_empty (delta_for q ds)) None (Some (delta_for q ds))
found_is [] deltas q = sym (ap (λ b. cond b None (Some nothing)) nothing_empty)
found_is (c ∷ cs) deltas q = elim (eq_by_cmp bytes_cmp q c.table) as (λ b.
    cond b (Some c.delta) (finmap.find bytes_cmp q (map pair_of cs)) ≡ cond (is_empty (cond b c.delta (delta_for q cs))) None (Some (cond b c.delta (delta_for q cs)))) [
      | true ↦ sym (ap (λ b. cond b None (Some c.delta)) deltas.0)
      | false ↦ found_is cs deltas.2 q
    ]

all_above : (n : Name) (cs : List TableDelta) → list_all (λ later. is_lt (bytes_cmp n later.table)) cs ≡ true → AllByRecursion (λ y. bytes_cmp n y ≡ Less) (keys_of (map pair_of cs))
all_above n [] h = tt
all_above n (c ∷ cs) h = let w = and_parts (is_lt (bytes_cmp n c.table)) (list_all (λ later. is_lt (bytes_cmp n later.table)) cs) h in (is_less (bytes_cmp n c.table) w.0, all_above n cs w.1)

names_rise : (ds : List TableDelta) → AreDeltas ds → IsStrictlySortedBy bytes_cmp (keys_of (map pair_of ds))
unfolding IsStrictlySortedBy
names_rise [] deltas = tt
names_rise (c ∷ cs) deltas = (all_above c.table cs deltas.1, names_rise cs deltas.2)

-- two such lists with the same differences are one
pub same_deltas : (ds es : List TableDelta) → AreDeltas ds → AreDeltas es → ((q : Name) → delta_for q ds ≡ delta_for q es) → ds ≡ es
same_deltas ds es p r same =
    let maps : finmap.from_entries {R = bytes_cmp} (map pair_of ds) ≡ finmap.from_entries (map pair_of es) = finmap.same_map name_total name_exact _ _ (λ q.
    finmap.get-from_entries name_total (map pair_of ds) q ∙ found_is ds p q ∙ ap (λ d. cond (is_empty d) None (Some d)) (same q)
    ∙ sym (finmap.get-from_entries name_total (map pair_of es) q ∙ found_is es r q)) in
    let lists : map pair_of ds ≡ map pair_of es = sym (entries-from_entries bytes_cmp name_total (map pair_of ds) (names_rise ds p)) ∙ ap finmap.entries maps
    ∙ entries-from_entries bytes_cmp name_total (map pair_of es) (names_rise es r) in
    sym (of_pairs ds) ∙ ap (map of_pair) lists ∙ of_pairs es

-- ---- the differences of tables are such a list

module _ (old new : Tables) where
  abbrev change : Name → Delta
  change t = diff (table old t) (table new t)

  either_nothing : (b : Bool) (d : Delta) → d ≡ nothing → cond b d nothing ≡ nothing
  either_nothing true d e = e
  either_nothing false d e = refl

  -- the difference of each table in them
  pub differences_for : (ts : List Name) (q : Name) → delta_for q (differences ts old new) ≡ cond (is_among q ts) (change q) nothing
  differences_for [] q = refl
  differences_for (t ∷ ts) q =
      let rest = differences_for ts q in
      elim (is_empty (change t)) as (λ b. is_empty (change t) ≡ b
      → delta_for q (cond b (differences ts old new) (record { table = t; delta = change t } ∷ differences ts old new)) ≡ cond (is_among q (t ∷ ts)) (change q) nothing) [
        | true ↦ λ none. rest ∙ elim (eq_by_cmp bytes_cmp q t) as (λ b. eq_by_cmp bytes_cmp q t ≡ b → cond (is_among q ts) (change q) nothing ≡ cond (b || is_among q ts) (change q) nothing) [
          | true ↦ λ tie. let is : change q ≡ nothing = ap change (tied_name q t tie) ∙ empty_is (change t) none in either_nothing (is_among q ts) (change q) is ∙ sym is
          | false ↦ λ _. refl
        ] refl
        | false ↦ λ _. elim (eq_by_cmp bytes_cmp q t) as (λ b. eq_by_cmp bytes_cmp q t ≡ b → cond b (change t) (delta_for q (differences ts old new)) ≡ cond (b || is_among q ts) (change q) nothing) [
          | true ↦ λ tie. ap change (sym (tied_name q t tie))
          | false ↦ λ _. rest
        ] refl
      ] refl

  above_first : (t : Name) (ts : List Name) → AllByRecursion (λ u. bytes_cmp t u ≡ Less) ts → list_all (λ later. is_lt (bytes_cmp t later.table)) (differences ts old new) ≡ true
  above_first t [] h = refl
  above_first t (u ∷ ts) h = elim (is_empty (change u)) as (λ b. list_all (λ later. is_lt (bytes_cmp t later.table)) (cond b (differences ts old new) (record { table = u; delta = change u } ∷ differences ts old new)) ≡ true) [
    | true ↦ above_first t ts h.1
    | false ↦ and_from _ _ (ap is_lt h.0) (above_first t ts h.1)
  ]

  -- by rising names, the differences are by rising names, and none is empty
  pub difference_deltas : (ts : List Name) → IsStrictlySortedBy bytes_cmp ts → AreDeltas (differences ts old new)
  unfolding IsStrictlySortedBy
  difference_deltas [] rise = tt
  difference_deltas (t ∷ ts) rise = elim (is_empty (change t)) as (λ b. is_empty (change t) ≡ b → AreDeltas (cond b (differences ts old new) (record { table = t; delta = change t } ∷ differences ts old new))) [
    | true ↦ λ _. difference_deltas ts rise.1
    | false ↦ λ some. (some, above_first t ts rise.0, difference_deltas ts rise.1)
  ] refl

-- ---- one list alone

-- two lists that lead from the same tables to the same are one
pub one_leads : (ds es : List TableDelta) (a b : Tables) → AreDeltas ds → AreDeltas es → LeadTo ds a b → LeadTo es a b → ds ≡ es
one_leads ds es a b p r first second = same_deltas ds es p r (λ q. each_differs ds a b first q ∙ sym (each_differs es a b second q))

-- what leads there is what differs in the tables that are there
pub are_differences : (ds : List TableDelta) (a b : Tables) → AreDeltas ds → LeadTo ds a b → ds ≡ differences (finmap.keys a) a b
are_differences ds a b deltas leads = same_deltas ds (differences (finmap.keys a) a b) deltas (difference_deltas a b (finmap.keys a) (keys_rise bytes_cmp a)) (λ q.
    each_differs ds a b leads q
    ∙ elim (is_some (finmap.get a q)) as (λ c. is_some (finmap.get a q) ≡ c → diff (table a q) (table b q) ≡ cond c (diff (table a q) (table b q)) nothing) [
      | true ↦ λ _. refl
      | false ↦ λ absent. sym (each_differs ds a b leads q) ∙ absent_nothing ds a (all_there ds a leads.0) q absent
    ] refl
    ∙ ap (λ c. cond c (diff (table a q) (table b q)) nothing) (finmap.contains_key-keys a q)
    ∙ sym (differences_for a b (finmap.keys a) q))
