-- Differences made to tables one after the other, and all at once.
use Rattle.std.proofs.Common.{◌≡◌, List, [], ◌∷◌, ◌++◌, false, cond, Some, refl, sym, ap, ◌∙◌, ◌||◌, map, nat_eq}
use Rattle.std.specs.FinMap as finmap
use Rattle.plain_values.proofs.Common.{AllByRecursion, list_any, pointwise, texts_ties, bytes_cmp, first_fails, second_fails}
use Rattle.lens_specs.specs.Common.{Name, Rows, TableDelta, new_view, rows_at, or_empty}
use Rattle.lens_specs.specs.Keeping.{AllApply, with_deltas}
use Rattle.signed_delta.specs.declared.delta.TableDelta as code
use Rattle.signed_delta.specs.Tables.{table_delta}
use Rattle.table_keeper.specs.Places.{IsThere, entry_after, with_entries}
use Rattle.table_keeper.proofs.ByName.{name_total}

abbrev Tables : Type 0
Tables = finmap.FinMap bytes_cmp Rows

-- each table of differences that apply is there
pub all_there : (ds : List code.TableDelta) (m : Tables) → AllApply (map table_delta ds) m → AllByRecursion (λ d. IsThere m (table_delta d)) ds
all_there [] m a = tt
all_there (d ∷ ds) m a = (a.0, all_there ds m a.3)

-- both have the same rows for each of the differences
abbrev Agree : Tables → Tables → List TableDelta → Type 0
Agree m n ds = AllByRecursion (λ d. rows_at n d.table ≡ rows_at m d.table) ds

rows_other : (n : Tables) (k q : Name) (v : Rows) → pointwise nat_eq q k ≡ false → rows_at (finmap.insert n k v) q ≡ rows_at n q
rows_other n k q v o = ap or_empty (finmap.get-insert name_total n k v q ∙ ap (λ b. cond b (Some v) (finmap.get n q)) (sym (texts_ties q k) ∙ o))

agree_after : (ds : List TableDelta) (m n : Tables) (k : Name) (v : Rows) → list_any (λ later. pointwise nat_eq later.table k) ds ≡ false → Agree m n ds → Agree m (finmap.insert n k v) ds
agree_after [] m n k v o a = tt
agree_after (d ∷ ds) m n k v o a = (
  rows_other n k d.table v (first_fails (pointwise nat_eq d.table k) (list_any (λ later. pointwise nat_eq later.table k) ds) o) ∙ a.0,
  agree_after ds m n k v (second_fails (pointwise nat_eq d.table k) (list_any (λ later. pointwise nat_eq later.table k) ds) o) a.1,
)

each_is : (ds : List TableDelta) (m n : Tables) → AllApply ds m → Agree m n ds → with_entries (map (entry_after m) ds) n ≡ with_deltas ds n
each_is [] m n a g = refl
each_is (d ∷ ds) m n a g =
    let after : Rows → Tables = λ rows. finmap.insert n d.table (new_view rows d.delta) in
    each_is ds m (after (rows_at m d.table)) a.3 (agree_after ds m n d.table (new_view (rows_at m d.table) d.delta) a.2 g.1)
    ∙ ap (λ rows. with_deltas ds (after rows)) (sym g.0)

agree_itself : (ds : List TableDelta) (m : Tables) → Agree m m ds
agree_itself [] m = tt
agree_itself (d ∷ ds) m = (refl, agree_itself ds m)

-- of differences one to a table, each can be made to the rows as they were
pub all_at_once : (ds : List TableDelta) (m : Tables) → AllApply ds m → with_entries (map (entry_after m) ds) m ≡ with_deltas ds m
all_at_once ds m a = each_is ds m m a (agree_itself ds m)

pub with_entries-push : (es : List (Name × Rows)) (e : Name × Rows) (m : Tables) → with_entries (es ++ e ∷ []) m ≡ finmap.insert (with_entries es m) e.0 e.1
with_entries-push [] e m = refl
with_entries-push (x ∷ xs) e m = with_entries-push xs e (finmap.insert m x.0 x.1)

pub map_twice : (ds : List code.TableDelta) (m : Tables) → map (λ d. entry_after m (table_delta d)) ds ≡ map (entry_after m) (map table_delta ds)
map_twice [] m = refl
map_twice (d ∷ ds) m = ap (λ es. entry_after m (table_delta d) ∷ es) (map_twice ds m)
