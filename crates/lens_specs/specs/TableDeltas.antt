-- Differences of tables: what they make of the tables, which of them apply, their inverse, and one after another.
use Rattle.std.specs.Prelude.{◌≡◌, true, false, cond, List, [], ◌∷◌, ◌++◌, map, nat_eq, is_some, unwrap_or}
use Rattle.std.specs.Cmp.Lexicographic.{pointwise}
use Rattle.std.specs.FinMap as finmap
use Rattle.std.specs.List.{list_all, list_any}
use Rattle.std.specs.Ordering.{eq_by_cmp, is_lt}
use Rattle.plain_values.specs.Order.{bytes_cmp}
use Rattle.plain_values.specs.SortedSet as set
use Rattle.lens_specs.specs.Delta.{AppliesTo, Delta, TableDelta, is_empty, new_view, with_delta}
use Rattle.lens_specs.specs.Lens.{Tables}
use Rattle.lens_specs.specs.Names.{Name}
use Rattle.lens_specs.specs.Relation.{Relation, minus, union}

-- the relation of no column and no row
abbrev pub no_relation : Relation
no_relation = record { columns = finmap.empty; rows = set.empty }

-- the relation of a table, an empty one where there is no such table
abbrev pub relation_in : Tables → Name → Relation
relation_in tables t = unwrap_or (finmap.get tables t) no_relation

-- the relation after a difference
abbrev pub after : Relation → Delta → Relation
after r d = record r { rows = new_view r.rows d }

-- the tables after the differences
abbrev pub with_deltas : List TableDelta → Tables → Tables
with_deltas [] tables = tables
with_deltas (c ∷ cs) tables =
    with_deltas cs (finmap.insert tables c.table (after (relation_in tables c.table) c.delta))

-- each difference applies to a table that is there, and no later one is of the same table
abbrev pub AllApply : List TableDelta → Tables → Type 0
AllApply [] tables = Unit {0}
AllApply (c ∷ cs) tables =
    (is_some (finmap.get tables c.table) ≡ true) × AppliesTo c.delta (relation_in tables c.table)
    × (list_any (λ later. pointwise nat_eq later.table c.table) cs ≡ false) × AllApply cs tables

-- the delta of a table in the list
abbrev pub delta_for : Name → List TableDelta → Delta
delta_for t [] = record { remove = set.empty; add = set.empty }
delta_for t (x ∷ xs) = cond (eq_by_cmp bytes_cmp t x.table) x.delta (delta_for t xs)

-- ---- differences that can be told

-- the names of the tables rise, and each difference has a row
abbrev pub AreDeltas : List TableDelta → Type 0
AreDeltas [] = Unit {0}
AreDeltas (c ∷ cs) =
    (is_empty c.delta ≡ false) × (list_all (λ later. is_lt (bytes_cmp c.table later.table)) cs ≡ true) × AreDeltas cs

-- the differences apply, and make the old tables the new ones
abbrev pub LeadTo : List TableDelta → Tables → Tables → Type 0
LeadTo cs old new = AllApply cs old × (with_deltas cs old ≡ new)

-- ---- the inverse

-- what removes the added rows and adds the removed ones
abbrev pub inverse : Delta → Delta
inverse d = record { remove = d.add; add = d.remove }

-- the inverse of the difference of one table
abbrev pub inverse_of : TableDelta → TableDelta
inverse_of c = record { table = c.table; delta = inverse c.delta }

-- the inverse of each
abbrev pub inverted : List TableDelta → List TableDelta
inverted cs = map inverse_of cs

-- ---- one difference after another

-- the difference that does what two do, the one after the other
abbrev pub compose_delta : Delta → Delta → Delta
compose_delta d e = record {
  remove = union (minus d.remove e.add) (minus e.remove d.add);
  add = union (minus d.add e.remove) (minus e.add d.remove);
}

-- the names of both, in rising order
abbrev pub names_of_both : List TableDelta → List TableDelta → List Name
names_of_both ds es = set.items {R = bytes_cmp} (set.from_list (map (λ c. c.table) ds ++ map (λ c. c.table) es))

-- table by table what both do, where that is something
abbrev pub composed_at : List Name → List TableDelta → List TableDelta → List TableDelta
composed_at [] ds es = []
composed_at (t ∷ ts) ds es = with_delta t (compose_delta (delta_for t ds) (delta_for t es)) (composed_at ts ds es)

-- what the first differences and then the second ones do
abbrev pub composed : List TableDelta → List TableDelta → List TableDelta
composed ds es = composed_at (names_of_both ds es) ds es
