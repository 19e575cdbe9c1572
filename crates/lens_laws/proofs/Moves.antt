-- Differences of tables, table by table.
use Rattle.std.proofs.Common.{◌≡◌, ◌∙◌, List, [], ◌∷◌, length, ap, sym, subst, refl, Bool, true, false, cond, arith, ◌&&◌, ◌||◌, ◌==◌, nat_eq, Option, Some, None, is_some, unwrap_or}
use Rattle.plain_values.proofs.Common.{option_map, eqb-true, false≢true, or_parts, and_parts, list_all, list_any, eq_by_cmp_equiv, pointwise, texts_ties, eq_by_cmp, is_lt, bytes_cmp, row_cmp, Row, row_cmp_total, row_cmp-IsAntisymmetric}
use Rattle.std.specs.FinMap as finmap
use Rattle.plain_values.specs.SortedSet as set
use Rattle.lens_specs.specs.Common.{AppliesTo, Delta, TableDelta, is_empty, new_view, Tables, Name, Relation, Rows, has, AllApply, AreDeltas, LeadTo, after, no_relation, with_deltas, delta_for, relation_in}
use Rattle.fd_laws.proofs.Common.{name_total, tied_name, sets}

-- whether two names are the same
abbrev pub same_name : Name → Name → Bool
same_name = pointwise nat_eq

-- two sets that have the same rows are one
pub same_rows : (s t : Rows) → ((x : Row) → has s x ≡ has t x) → s ≡ t
same_rows = set.same_set row_cmp_total row_cmp-IsAntisymmetric

-- ---- one relation

-- the difference of no row
abbrev pub nothing : Delta
nothing = record { remove = set.empty; add = set.empty }

pub nothing_applies : (r : Relation) → AppliesTo nothing r
nothing_applies r = grind (arith, false≢true, set.contains-empty row_cmp)

pub after_nothing : (r : Relation) → after r nothing ≡ r
unfolding new_view
after_nothing r = ap (λ rows. record r { rows = rows }) (same_rows (new_view r.rows nothing) r.rows (λ x. grind (arith, sets, set.contains-empty row_cmp x)))

-- ---- tables by name

-- each table that is there is changed by its difference, which applies
abbrev pub IsMove : (Name → Delta) → Tables → Tables → Type 0
IsMove f a b = (q : Name) → AppliesTo (f q) (relation_in a q) × (finmap.get b q ≡ option_map (λ r. after r (f q)) (finmap.get a q))

-- ---- lists of differences

-- no later one is of the same table
abbrev pub Apart : List TableDelta → Type 0
Apart [] = Unit {0}
Apart (c ∷ cs) = (list_any (λ later. same_name later.table c.table) cs ≡ false) × Apart cs

-- the table of each is there
abbrev pub AllThere : List TableDelta → Tables → Type 0
AllThere [] a = Unit {0}
AllThere (c ∷ cs) a = (is_some (finmap.get a c.table) ≡ true) × AllThere cs a

-- each applies to its table
abbrev pub EachApplies : List TableDelta → Tables → Type 0
EachApplies [] a = Unit {0}
EachApplies (c ∷ cs) a = AppliesTo c.delta (relation_in a c.table) × EachApplies cs a

pub are_apart : (cs : List TableDelta) (a : Tables) → AllApply cs a → Apart cs
are_apart [] a all = tt
are_apart (c ∷ cs) a all = (all.2, are_apart cs a all.3)

pub all_there : (cs : List TableDelta) (a : Tables) → AllApply cs a → AllThere cs a
all_there [] a all = tt
all_there (c ∷ cs) a all = (all.0, all_there cs a all.3)

pub each_applies : (cs : List TableDelta) (a : Tables) → AllApply cs a → EachApplies cs a
each_applies [] a all = tt
each_applies (c ∷ cs) a all = (all.1, each_applies cs a all.3)

pub same_is : (n q : Name) → same_name n q ≡ eq_by_cmp bytes_cmp q n
same_is n q = texts_ties n q ∙ (eq_by_cmp_equiv name_total).symm n q

-- a table that no difference names stays
pub get_other : (cs : List TableDelta) (T : Tables) (q : Name) → list_any (λ c. same_name c.table q) cs ≡ false → finmap.get (with_deltas cs T) q ≡ finmap.get T q
get_other [] T q none = refl
get_other (c ∷ cs) T q none =
    let parts = or_parts (same_name c.table q) (list_any (λ d. same_name d.table q) cs) none in
    let new = after (relation_in T c.table) c.delta in
    get_other cs (finmap.insert T c.table new) q parts.1
    ∙ finmap.get-insert name_total T c.table new q
    ∙ ap (λ b. cond b (Some new) (finmap.get T q)) (sym (same_is c.table q) ∙ parts.0)

some_either : (b : Bool) (r : Relation) (o : Option Relation) → is_some o ≡ true → is_some (cond b (Some r) o) ≡ true
some_either true r o there = refl
some_either false r o there = there

pub still_there : (cs : List TableDelta) (T : Tables) (n : Name) (r : Relation) → AllThere cs T → AllThere cs (finmap.insert T n r)
still_there [] T n r there = tt
still_there (c ∷ cs) T n r there = (
  ap is_some (finmap.get-insert name_total T n r c.table) ∙ some_either (eq_by_cmp bytes_cmp c.table n) r (finmap.get T c.table) there.0,
  still_there cs T n r there.1,
)

pub map_nothing : (o : Option Relation) → option_map (λ r. after r nothing) o ≡ o
map_nothing None = refl
map_nothing (Some r) = ap Some (after_nothing r)

map_some : (d : Delta) (o : Option Relation) → is_some o ≡ true → Some (after (unwrap_or o no_relation) d) ≡ option_map (λ r. after r d) o
map_some d None there = cc
map_some d (Some r) there = refl

-- each table after the differences is changed by its own
pub get_moved : (cs : List TableDelta) (T : Tables) → Apart cs → AllThere cs T → (q : Name)
    → finmap.get (with_deltas cs T) q ≡ option_map (λ r. after r (delta_for q cs)) (finmap.get T q)
get_moved [] T apart there q = sym (map_nothing (finmap.get T q))
get_moved (c ∷ cs) T apart there q =
    let new = after (relation_in T c.table) c.delta in
    let T' = finmap.insert T c.table new in
    let got = finmap.get-insert name_total T c.table new q in
    elim (eq_by_cmp bytes_cmp q c.table) as (λ b. eq_by_cmp bytes_cmp q c.table ≡ b
    → finmap.get (with_deltas cs T') q ≡ option_map (λ r. after r (cond b c.delta (delta_for q cs))) (finmap.get T q)) [
      | true ↦ λ tie.
          let is : q ≡ c.table = tied_name q c.table tie in
          get_other cs T' q (ap (λ n. list_any (λ later. same_name later.table n) cs) is ∙ apart.0)
          ∙ got ∙ ap (λ b. cond b (Some new) (finmap.get T q)) tie
          ∙ map_some c.delta (finmap.get T c.table) there.0 ∙ ap (λ n. option_map (λ r. after r c.delta) (finmap.get T n)) (sym is)
      | false ↦ λ other.
          get_moved cs T' apart.1 (still_there cs T c.table new there.1) q
          ∙ ap (option_map (λ r. after r (delta_for q cs))) (got ∙ ap (λ b. cond b (Some new) (finmap.get T q)) other)
    ] refl

-- the difference of each table applies to it
pub own_applies : (cs : List TableDelta) (a : Tables) → EachApplies cs a → (q : Name) → AppliesTo (delta_for q cs) (relation_in a q)
own_applies [] a each q = nothing_applies (relation_in a q)
own_applies (c ∷ cs) a each q = elim (eq_by_cmp bytes_cmp q c.table) as (λ b. eq_by_cmp bytes_cmp q c.table ≡ b → AppliesTo (cond b c.delta (delta_for q cs)) (relation_in a q)) [
  | true ↦ λ tie. subst (λ n. AppliesTo c.delta (relation_in a n)) (sym (tied_name q c.table tie)) each.0
  | false ↦ λ _. own_applies cs a each.1 q
] refl

pub lead_moves : (cs : List TableDelta) (a b : Tables) → LeadTo cs a b → IsMove (λ q. delta_for q cs) a b
lead_moves cs a b lead q = (
  own_applies cs a (each_applies cs a lead.0) q,
  ap (λ t. finmap.get t q) (sym lead.1) ∙ get_moved cs a (are_apart cs a lead.0) (all_there cs a lead.0) q,
)

-- a table that no difference names has none
pub unnamed : (cs : List TableDelta) (q : Name) → list_any (λ c. same_name c.table q) cs ≡ false → delta_for q cs ≡ nothing
unnamed [] q none = refl
unnamed (c ∷ cs) q none =
    let parts = or_parts (same_name c.table q) (list_any (λ d. same_name d.table q) cs) none in
    ap (λ b. cond b c.delta (delta_for q cs)) (sym (same_is c.table q) ∙ parts.0) ∙ unnamed cs q parts.1

-- ---- rising names

lower : (n m : Name) → is_lt (bytes_cmp n m) ≡ true → same_name m n ≡ false
lower n m less = grind (arith, same_is)

below_all : (n : Name) (cs : List TableDelta) → list_all (λ later. is_lt (bytes_cmp n later.table)) cs ≡ true → list_any (λ later. same_name later.table n) cs ≡ false
below_all n [] h = refl
below_all n (c ∷ cs) h =
    let parts = and_parts (is_lt (bytes_cmp n c.table)) (list_all (λ later. is_lt (bytes_cmp n later.table)) cs) h in
    (λ i. lower n c.table parts.0 i || below_all n cs parts.1 i)

pub rising_apart : (cs : List TableDelta) → AreDeltas cs → Apart cs
rising_apart [] deltas = tt
rising_apart (c ∷ cs) deltas = (below_all c.table cs deltas.1, rising_apart cs deltas.2)

no_rows : (s : Rows) → (length (set.items s) == 0) ≡ true → s ≡ set.empty
no_rows s none = same_rows s set.empty (λ x. set.contains-items s x ∙ ap (list_any (eq_by_cmp row_cmp x)) (no_item (set.items s) (eqb-true _ _ none)) ∙ sym (set.contains-empty row_cmp x))
  where
    no_item : (xs : List Row) → length xs ≡ 0 → xs ≡ []
    no_item [] none = refl
    no_item (x ∷ xs) none = absurd (omega arith)

pub empty_is : (d : Delta) → is_empty d ≡ true → d ≡ nothing
empty_is d none = grind (arith, and_parts, no_rows)

no_items : length (set.items (set.empty {R = row_cmp})) ≡ 0
no_items = ap length (set.items-from_list row_cmp_total [] (set.nothing_rises row_cmp_total))

pub nothing_empty : is_empty nothing ≡ true
nothing_empty = (λ i. (no_items i == 0) && (no_items i == 0))

pub absent_nothing : (cs : List TableDelta) (a : Tables) → AllThere cs a → (q : Name) → is_some (finmap.get a q) ≡ false → delta_for q cs ≡ nothing
absent_nothing [] a there q absent = refl
absent_nothing (c ∷ cs) a there q absent = elim (eq_by_cmp bytes_cmp q c.table) as (λ b. eq_by_cmp bytes_cmp q c.table ≡ b → cond b c.delta (delta_for q cs) ≡ nothing) [
  | true ↦ λ tie. absurd (false≢true (sym absent ∙ ap (λ n. is_some (finmap.get a n)) (tied_name q c.table tie) ∙ there.0))
  | false ↦ λ _. absent_nothing cs a there.1 q absent
] refl
