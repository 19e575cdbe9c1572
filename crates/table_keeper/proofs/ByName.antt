-- The rows of tables by name: the place of a table, and what putting one there does.
use Rattle.std.proofs.Common.{◌≡◌, ℕ, ◌<◌, zero, suc, arith, List, [], ◌∷◌, length, get_or, set, Bool, true, false, cond, Option, Some, refl, sym, ap, ◌∙◌, subst, ◌||◌, map, is_some}
use Rattle.std.specs.FinMap as finmap
use Rattle.plain_values.proofs.Common.{AllByRecursion, HoldsAt, insert, IsStrictlySortedBy, IsTotalOrder, tied_itself, nat_list_cmp_total, eq_by_cmp, is_eq, Less, bytes_cmp, exact, is_tie, first_fails, second_fails}
use Rattle.lens_specs.specs.Common.{Rows}
use Rattle.lens_specs.specs.Relation.{Name}
use Rattle.row_sets.proofs.Walks.{apart}
use Rattle.table_keeper.specs.Changes.{names_of, rows_of}
use Rattle.table_keeper.specs.Places.{Rise, is_named, rows_in}
use Rattle.table_keeper.specs.declared.keeper.KeptTable.{KeptTable}

pub name_total : IsTotalOrder bytes_cmp
name_total = nat_list_cmp_total

pub one_name : (x y : Name) → eq_by_cmp bytes_cmp x y ≡ true → x ≡ y
one_name x y e = exact x y (is_tie (bytes_cmp x y) e)

itself : (x : Name) → eq_by_cmp bytes_cmp x x ≡ true
itself x = ap is_eq (tied_itself name_total x)

shadowed : {A : Type 0} (b : Bool) (x y z : A) → cond b x z ≡ cond b x (cond b y z)
shadowed true x y z = refl
shadowed false x y z = refl

swapped : {A : Type 0} (a b : Bool) (x y z : A) → (a ≡ true → b ≡ true → ⊥) → cond a x (cond b y z) ≡ cond b y (cond a x z)
swapped true true x y z never = absurd (never refl refl)
swapped true false x y z never = refl
swapped false b x y z never = refl

pub at_all : {K : Type 0} (P : K → Type 0) (xs : List K) (i : ℕ) (d : K) → i < length xs → AllByRecursion P xs → P (get_or xs i d)
at_all P [] i d l a = absurd (omega arith)
at_all P (x ∷ xs) zero d l a = a.0
at_all P (x ∷ xs) (suc i) d l a = at_all P xs i d (omega arith) a.1

pub length_names : (ts : List KeptTable) → length (names_of ts) ≡ length ts
length_names [] = refl
length_names (t ∷ ts) = ap suc (length_names ts)

abbrev find : Name → List KeptTable → Option Rows
find q ts = finmap.find bytes_cmp q (map rows_of ts)

some_find : (q : Name) (ts : List KeptTable) → is_some (find q ts) ≡ is_named (names_of ts) q
some_find q [] = refl
some_find q (t ∷ ts) =
    elim (eq_by_cmp bytes_cmp q t.table) as (λ b. is_some (cond b (Some t.rows) (find q ts)) ≡ (b || is_named (names_of ts) q)) [
      | true ↦ refl
      | false ↦ some_find q ts
    ]

-- a table is there where its name is
pub there_is : (ts : List KeptTable) (q : Name) → is_some (finmap.get (rows_in ts) q) ≡ is_named (names_of ts) q
there_is ts q = ap is_some (finmap.get-from_entries name_total (map rows_of ts) q) ∙ some_find q ts

find_at : (q : Name) (ts : List KeptTable) (i : ℕ) (d : KeptTable) → Rise ts → i < length ts → HoldsAt (λ n. n ≡ q) (names_of ts) i → find q ts ≡ Some (get_or ts i d).rows
unfolding IsStrictlySortedBy
find_at q [] i d s l h = absurd (omega arith)
find_at q (t ∷ ts) zero d s l h = ap (λ b. cond b (Some t.rows) (find q ts)) (ap (eq_by_cmp bytes_cmp q) (h q) ∙ itself q)
find_at q (t ∷ ts) (suc i) d s l h =
    let below : bytes_cmp t.table q ≡ Less = subst (λ n. bytes_cmp t.table n ≡ Less) (h q) (at_all (λ y. bytes_cmp t.table y ≡ Less) (names_of ts) i q (omega (arith, length_names ts)) s.0) in
    ap (λ b. cond b (Some t.rows) (find q ts)) (apart name_total t.table q below) ∙ find_at q ts i d s.1 (omega arith) h

-- the rows at a place are those of the table with that name
pub rows_found : (ts : List KeptTable) (q : Name) (i : ℕ) (d : KeptTable) → Rise ts → i < length ts → HoldsAt (λ n. n ≡ q) (names_of ts) i → finmap.get (rows_in ts) q ≡ Some (get_or ts i d).rows
rows_found ts q i d s l h = finmap.get-from_entries name_total (map rows_of ts) q ∙ find_at q ts i d s l h

pub names_set : (ts : List KeptTable) (i : ℕ) (t : KeptTable) → HoldsAt (λ n. n ≡ t.table) (names_of ts) i → names_of (set ts i t) ≡ names_of ts
names_set [] i t h = refl
names_set (x ∷ xs) zero t h = ap (λ n. n ∷ names_of xs) (sym (h x.table))
names_set (x ∷ xs) (suc i) t h = ap (λ l. x.table ∷ l) (names_set xs i t h)

not_both : (q x y : Name) → bytes_cmp x y ≡ Less → eq_by_cmp bytes_cmp q x ≡ true → eq_by_cmp bytes_cmp q y ≡ true → ⊥
not_both q x y l a b =
    let none : eq_by_cmp bytes_cmp y x ≡ false = apart name_total x y l in
    let one : eq_by_cmp bytes_cmp y x ≡ true = (λ k. eq_by_cmp bytes_cmp (sym (one_name q y b) k) (sym (one_name q x a) k)) ∙ itself q in
    cc

find_set : (q : Name) (ts : List KeptTable) (i : ℕ) (t : KeptTable) → Rise ts → i < length ts → HoldsAt (λ n. n ≡ t.table) (names_of ts) i
    → find q (set ts i t) ≡ cond (eq_by_cmp bytes_cmp q t.table) (Some t.rows) (find q ts)
unfolding IsStrictlySortedBy
find_set q [] i t s l h = absurd (omega arith)
find_set q (x ∷ xs) zero t s l h =
    shadowed (eq_by_cmp bytes_cmp q t.table) (Some t.rows) (Some x.rows) (find q xs)
    ∙ ap (λ n. cond (eq_by_cmp bytes_cmp q t.table) (Some t.rows) (cond (eq_by_cmp bytes_cmp q n) (Some x.rows) (find q xs))) (sym (h x.table))
find_set q (x ∷ xs) (suc i) t s l h =
    let below : bytes_cmp x.table t.table ≡ Less = subst (λ n. bytes_cmp x.table n ≡ Less) (h x.table) (at_all (λ y. bytes_cmp x.table y ≡ Less) (names_of xs) i x.table (omega (arith, length_names xs)) s.0) in
    ap (cond (eq_by_cmp bytes_cmp q x.table) (Some x.rows)) (find_set q xs i t s.1 (omega arith) h)
    ∙ swapped (eq_by_cmp bytes_cmp q x.table) (eq_by_cmp bytes_cmp q t.table) (Some x.rows) (Some t.rows) (find q xs) (not_both q x.table t.table below)

-- from what is found under each name
by_finds : (ts us : List KeptTable) (t : KeptTable) → ((q : Name) → find q us ≡ cond (eq_by_cmp bytes_cmp q t.table) (Some t.rows) (find q ts)) → rows_in us ≡ finmap.insert (rows_in ts) t.table t.rows
by_finds ts us t is = finmap.same_map name_total exact _ _ (λ q.
    finmap.get-from_entries name_total (map rows_of us) q ∙ is q
    ∙ sym (finmap.get-insert name_total (rows_in ts) t.table t.rows q ∙ ap (cond (eq_by_cmp bytes_cmp q t.table) (Some t.rows)) (finmap.get-from_entries name_total (map rows_of ts) q)))

-- a table put in the place of its name
pub rows_set : (ts : List KeptTable) (i : ℕ) (t : KeptTable) → Rise ts → i < length ts → HoldsAt (λ n. n ≡ t.table) (names_of ts) i → rows_in (set ts i t) ≡ finmap.insert (rows_in ts) t.table t.rows
rows_set ts i t s l h = by_finds ts (set ts i t) t (λ q. find_set q ts i t s l h)

pub names_insert : (ts : List KeptTable) (i : ℕ) (t : KeptTable) → names_of (insert ts i t) ≡ insert (names_of ts) i t.table
names_insert [] zero t = refl
names_insert [] (suc i) t = refl
names_insert (x ∷ xs) zero t = refl
names_insert (x ∷ xs) (suc i) t = ap (λ l. x.table ∷ l) (names_insert xs i t)

not_named : (q x y : Name) → eq_by_cmp bytes_cmp y x ≡ false → eq_by_cmp bytes_cmp q x ≡ true → eq_by_cmp bytes_cmp q y ≡ true → ⊥
not_named q x y none a b =
    let one : eq_by_cmp bytes_cmp y x ≡ true = (λ k. eq_by_cmp bytes_cmp (sym (one_name q y b) k) (sym (one_name q x a) k)) ∙ itself q in
    cc

find_insert : (q : Name) (ts : List KeptTable) (i : ℕ) (t : KeptTable) → is_named (names_of ts) t.table ≡ false → find q (insert ts i t) ≡ cond (eq_by_cmp bytes_cmp q t.table) (Some t.rows) (find q ts)
find_insert q [] zero t o = refl
find_insert q [] (suc i) t o = refl
find_insert q (x ∷ xs) zero t o = refl
find_insert q (x ∷ xs) (suc i) t o =
    let other : eq_by_cmp bytes_cmp t.table x.table ≡ false = first_fails (eq_by_cmp bytes_cmp t.table x.table) (is_named (names_of xs) t.table) o in
    ap (cond (eq_by_cmp bytes_cmp q x.table) (Some x.rows)) (find_insert q xs i t (second_fails (eq_by_cmp bytes_cmp t.table x.table) (is_named (names_of xs) t.table) o))
    ∙ swapped (eq_by_cmp bytes_cmp q x.table) (eq_by_cmp bytes_cmp q t.table) (Some x.rows) (Some t.rows) (find q xs) (not_named q x.table t.table other)

-- a new table, at whatever place
pub rows_insert : (ts : List KeptTable) (i : ℕ) (t : KeptTable) → is_named (names_of ts) t.table ≡ false → rows_in (insert ts i t) ≡ finmap.insert (rows_in ts) t.table t.rows
rows_insert ts i t o = by_finds ts (insert ts i t) t (λ q. find_insert q ts i t o)
