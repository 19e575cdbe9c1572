-- The rows of tables by name.
use Rattle.std.proofs.Common.{◌≡◌, ◌∙◌, ◌<◌, ◌+◌, ℕ, zero, suc, arith, Bool, true, false, List, [], ◌∷◌, ◌++◌, get_or, length, take, cond, Some, None, ap, sym, subst, refl, map}
use Rattle.plain_values.proofs.Common.{take_more, is_at, eq_by_cmp_equiv, AllByRecursion, IsStrictlySortedBy, lookup, eq_by_cmp, Less, bytes_cmp}
use Rattle.std.specs.FinMap as finmap
use Rattle.lens_specs.specs.Common.{Rows}
use Rattle.lens_specs.specs.Relation.{Name}
use Rattle.row_sets.proofs.Walks.{apart}
use Rattle.table_keeper.specs.Changes.{names_of, rows_of}
use Rattle.table_keeper.specs.Places.{Rise, rows_in}
use Rattle.table_keeper.specs.declared.keeper.KeptTable.{KeptTable}
use Rattle.table_keeper.proofs.ByName.{name_total}
use Rattle.plain_values.proofs.Maps.{exact as name_exact}
use Rattle.memory_store.specs.InMemory.{Tables}

-- ---- the value at a name

found : (es : List (Name × Rows)) (q : Name) → lookup (is_at (bytes_cmp q)) es ≡ finmap.find bytes_cmp q es
found [] q = refl
found (e ∷ es) q = ap (cond (is_at (bytes_cmp q) e.0) (Some e.1)) (found es q)

-- the first entry at a name has the map's value there
pub looked_up : (es : List (Name × Rows)) (q : Name) → lookup (is_at (bytes_cmp q)) es ≡ finmap.get (finmap.from_entries {R = bytes_cmp} es) q
looked_up es q = found es q ∙ sym (finmap.get-from_entries name_total es q)

turned : (q k : Name) → eq_by_cmp bytes_cmp k q ≡ eq_by_cmp bytes_cmp q k
turned q k = (eq_by_cmp_equiv name_total).symm k q

same_tables : (T U : Tables) → ((q : Name) → finmap.get T q ≡ finmap.get U q) → T ≡ U
same_tables T U is = finmap.same_map name_total name_exact T U is

at_put : (T : Tables) (k q : Name) (v : Rows) → finmap.get (finmap.insert T k v) q ≡ cond (eq_by_cmp bytes_cmp q k) (Some v) (finmap.get T q)
at_put T k q v = finmap.get-insert name_total T k v q

-- entries that have one more value are those of the map with it
pub updated : (old new : List (Name × Rows)) (k : Name) (v : Rows)
    → ((q : Name) → lookup (is_at (bytes_cmp q)) new ≡ cond (is_at (bytes_cmp k) q) (Some v) (lookup (is_at (bytes_cmp q)) old))
    → finmap.from_entries {R = bytes_cmp} new ≡ finmap.insert (finmap.from_entries {R = bytes_cmp} old) k v
updated old new k v h = same_tables _ _ (λ q.
    sym (looked_up new q) ∙ h q ∙ ap (λ b. cond b (Some v) (lookup (is_at (bytes_cmp q)) old)) (turned q k)
    ∙ ap (cond (eq_by_cmp bytes_cmp q k) (Some v)) (looked_up old q) ∙ sym (at_put (finmap.from_entries old) k q v))

shadowed : {A : Type 0} (b : Bool) (x y z : A) → cond b x (cond b y z) ≡ cond b x z
shadowed true x y z = refl
shadowed false x y z = refl

-- where all other entries stay, the maps with one value are the same
pub once_taken : (old new : List (Name × Rows)) (k : Name) (v : Rows)
    → ((q : Name) → lookup (is_at (bytes_cmp q)) new ≡ cond (is_at (bytes_cmp k) q) None (lookup (is_at (bytes_cmp q)) old))
    → finmap.insert (finmap.from_entries {R = bytes_cmp} new) k v ≡ finmap.insert (finmap.from_entries {R = bytes_cmp} old) k v
once_taken old new k v h = same_tables _ _ (λ q.
    at_put (finmap.from_entries new) k q v
    ∙ ap (cond (eq_by_cmp bytes_cmp q k) (Some v)) (
    sym (looked_up new q) ∙ h q ∙ ap (λ b. cond b None (lookup (is_at (bytes_cmp q)) old)) (turned q k)
    ∙ ap (cond (eq_by_cmp bytes_cmp q k) None) (looked_up old q))
    ∙ shadowed (eq_by_cmp bytes_cmp q k) (Some v) None (finmap.get (finmap.from_entries old) q)
    ∙ sym (at_put (finmap.from_entries old) k q v))

-- ---- tables in rising order of names

-- the names of tables in a list
pub names_are : (tables : List KeptTable) → names_of tables ≡ map (λ (e : Name × Rows). e.0) (map rows_of tables)
names_are [] = refl
names_are (t ∷ ts) = ap (λ names. t.table ∷ names) (names_are ts)

-- the name of the first is below those of the others
below_all : (t : KeptTable) (ts : List KeptTable) (i : ℕ) (d : KeptTable) → AllByRecursion (λ n. bytes_cmp t.table n ≡ Less) (names_of ts) → i < length ts → bytes_cmp t.table (get_or ts i d).table ≡ Less
below_all t [] i d a l = absurd (omega arith)
below_all t (u ∷ us) zero d a l = a.0
below_all t (u ∷ us) (suc i) d a l = below_all t us i d a.1 (omega arith)

mapped : (ts : List KeptTable) (t : KeptTable) → map rows_of (ts ++ t ∷ []) ≡ map rows_of ts ++ (t.table, t.rows) ∷ []
mapped [] t = refl
mapped (u ∷ us) t = ap (λ es. rows_of u ∷ es) (mapped us t)

-- no table before a place has the name of the one there
not_before : (q : Name) (ts : List KeptTable) (i : ℕ) (d : KeptTable) → Rise ts → i < length ts → q ≡ (get_or ts i d).table → finmap.find bytes_cmp q (map rows_of (take i ts)) ≡ None
unfolding IsStrictlySortedBy
not_before q [] i d s l is = absurd (omega arith)
not_before q (t ∷ ts) zero d s l is = refl
not_before q (t ∷ ts) (suc i) d s l is =
    let inside : i < length ts = omega arith in
    let below : bytes_cmp t.table q ≡ Less =
    subst (λ n. bytes_cmp t.table n ≡ Less) (sym is) (below_all t ts i d s.0 inside) in
    ap (λ b. cond b (Some t.rows) (finmap.find bytes_cmp q (map rows_of (take i ts)))) (apart name_total t.table q below)
    ∙ not_before q ts i d s.1 inside is

-- the tables before a place, and the one there
pub one_further : (ts : List KeptTable) (i : ℕ) (t : KeptTable) → Rise ts → i < length ts → t ≡ get_or ts i t
    → rows_in (take (i + 1) ts) ≡ finmap.insert (rows_in (take i ts)) t.table t.rows
one_further ts i t s l is =
    ap rows_in (take_more ts i t l ∙ ap (λ x. take i ts ++ x ∷ []) (sym is))
    ∙ ap finmap.from_entries (mapped (take i ts) t)
    ∙ finmap.from_entries_push name_total name_exact (map rows_of (take i ts)) t.table t.rows
    (not_before t.table ts i t s l (ap (λ (x : KeptTable). x.table) is))
