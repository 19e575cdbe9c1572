-- What a view finds is within its size, and how sizes and work add up.
use Rattle.std.proofs.Common.{◌≡◌, ℕ, suc, ◌+◌, ◌-◌, ◌*◌, ◌≤◌, Bool, true, cond, List, [], ◌∷◌, length, map, refl, sym, ap, ◌∙◌, subst, ◌⊎◌, inl, inr, arith}
use Rattle.plain_values.proofs.Common.{cases_Bool, and_from, not_from_false, or_left, false_from_ne_true, Contains-append_left, Contains-append_right, mul-le, Contains, list_any, eq_by_cmp, row_cmp, Row, in_cons, absurd_false}
use Rattle.std.specs.FinMap as finmap
use Rattle.plain_values.specs.SortedSet as set
use Rattle.plain_values.specs.declared.join_kind.JoinKind.{JoinKind}
use Rattle.lens_laws.proofs.Asked.{names_len, rights_keyed, filled_from, filled_has, contains_head, contains_tail, contains_cases, contains_map, part_goes_down, shares_other, side_keys_are, shared_keyed, keys_are, drop_keys_are, renamed_keys_are}
use Rattle.lens_laws.proofs.Rename.{find_rename}
use Rattle.lens_laws.proofs.RenameSorts.{names-renamed}
use Rattle.lens_laws.proofs.Sorts.{to_in}
use Rattle.fd_laws.proofs.Common.{names-without, name_total, tied_name, from_shared, from_those, tied_row, row_itself, both_edges, each_edge, names-both, IsBefore, IsTree}
use Rattle.lens_laws.proofs.Counts.{count-those, count-image, count-project, count-matched}
use Rattle.lens_laws.proofs.Finds.{find_select, find_project}
use Rattle.lens_laws.proofs.Lenses.{get_sort}
use Rattle.lens_laws.proofs.NodeFinds.{find_alike, left_first_is, right_first_is}
use Rattle.lens_specs.specs.Common.{Columns, Fits, names, Tables, Lens, base, select, drop, rename, sort_of, get, table, view_names, Name, Names, Within, share, one, renamed_names, join_get, drop_get, select_get, rename_get, Predicate, holds, Edge, AllEdges, Rows, has, those, project, agree, paste, cut, join}
use Rattle.plain_values.specs.declared.value.Value.{Value}
use Rattle.lens_laws.proofs.NodeLaws.{sound, rename_can}
use Rattle.lens_laws.specs.Asked.{IsFilled, keys_at, side_keys, asked, AreKeys, HasKeys}
use Rattle.lens_laws.specs.Finds.{matched}
use Rattle.lens_laws.specs.KeyedDeltas.{find_by}
use Rattle.lens_laws.specs.Lenses.{IsTyped, AreOf}
use Rattle.lens_laws.specs.Rename.{CanRename}
use Rattle.lens_laws.specs.Shapes.{Shape, IsIn, shape_of}
use Rattle.lens_laws.specs.Work.{count_of, greatest, largest_group, fan, size, node_work, rows_down, work, GivesAtMost, TablesGiveAtMost}

-- ---- the greatest of a list
pub greatest_of : {T : Type 0} (f : T → ℕ) (xs : List T) (x : T) → Contains xs x → f x ≤ greatest (map f xs)
greatest_of f [] x i = absurd (omega arith)
greatest_of f (y ∷ ys) x i = elim (contains_cases x y ys i) [
  | inl is ↦ let e = ap f is in omega arith
  | inr j ↦ let h = greatest_of f ys x j in omega arith
]

greatest_row : (f : Row → ℕ) (rs : List Row) (r : Row) → list_any (eq_by_cmp row_cmp r) rs ≡ true → f r ≤ greatest (map f rs)
greatest_row f [] r i = cc
greatest_row f (q ∷ qs) r i = elim (in_cons (eq_by_cmp row_cmp) tied_row row_itself r q qs i) [
  | inl is ↦ let e = ap f is in omega arith
  | inr j ↦ let h = greatest_row f qs r j in omega arith
]

-- a set of rows is empty or has a row
first_of_rows : (rs : List Row) → (rs ≡ []) ⊎ ((r : Row) × (list_any (eq_by_cmp row_cmp r) rs ≡ true))
first_of_rows [] = inl refl
first_of_rows (r ∷ rs) = inr (r, or_left _ _ (row_itself r))

-- any key finds at most the rows of one group
pub group_bounds : (C : Names) (k : Row) (M : Rows) → count_of (find_by C k M) ≤ largest_group C M
group_bounds C k M = elim (first_of_rows (set.items (find_by C k M))) [
  | inl none ↦ let e = ap length none in omega arith
  | inr w ↦
      let i = from_those (agree C k) M w.0 (set.contains-items (find_by C k M) w.0 ∙ w.1) in
      let e : count_of (find_by C k M) ≡ count_of (find_by C w.0 M) = ap count_of (find_alike C k w.0 M i.1) in
      let h = greatest_row (λ r. count_of (find_by C r M)) (set.items M) w.0 (sym (set.contains-items M w.0) ∙ i.0) in
      omega arith
]

pub fan_bounds : (L : Lens) (db : Tables) → TablesGiveAtMost (fan L db) (asked L []) db
unfolding fan
fan_bounds L db t C k i =
    let h = group_bounds C k (table db t) in
    let g = greatest_of (λ p. largest_group p.1 (table db p.0)) (asked L []) (t, C) i in
    omega arith

-- ---- sizes
both_some : (a b : ℕ) → 1 ≤ a → 1 ≤ b → 1 ≤ a * b
both_some a b h k = mul-le 1 1 a b h k

pub size_some : (L : Lens) (w : ℕ) → 1 ≤ size L w
unfolding size
size_some (base t s) w = omega arith
size_some (select P L) w = size_some L w
size_some (drop A X a L) w = size_some L w
size_some (rename A B L) w = size_some L w
size_some (join kind A B) w = both_some (2 * size A w) (size B w) (let h = size_some A w in omega arith) (size_some B w)

size_grows : (L : Lens) (v w : ℕ) → v ≤ w → size L v ≤ size L w
unfolding size
size_grows (base t s) v w h = omega arith
size_grows (select P L) v w h = size_grows L v w h
size_grows (drop A X a L) v w h = size_grows L v w h
size_grows (rename A B L) v w h = size_grows L v w h
size_grows (join kind A B) v w h = mul-le (2 * size A v) (size B v) (2 * size A w) (size B w) (let g = size_grows A v w h in omega arith) (size_grows B v w h)

-- the looks of a look-up in a join: one on a side, and one on the other for each row found
pub join_looks : (a b : ℕ) → 1 ≤ a → 1 ≤ b → (a + a * b ≤ 2 * a * b) × (b + b * a ≤ 2 * a * b) × (a + b ≤ 2 * a * b)
join_looks a b ha hb = grind (arith, mul-le)

-- ---- what a view finds is within its size
finds_in_join : (UC VC : Columns) (M N : Rows) → ((m : Row) → has M m ≡ true → Fits UC m) → ((n : Row) → has N n ≡ true → Fits VC n) → (K : List Names) (a b : ℕ) → AreKeys (set.union (names UC) (names VC)) K
    → let S = set.intersection (names UC) (names VC) in
    GivesAtMost a (side_keys S (names UC) K) M → GivesAtMost b (side_keys S (names VC) K) N → GivesAtMost (a * b) K (join_get (names UC) (names VC) M N)
finds_in_join UC VC M N hM hN K a b keys ha hb C k i =
    let U = names UC in let V = names VC in let S = set.intersection U V in
    elim (cases_Bool (share C U)) [
      | inl s ↦
          let P = set.intersection C U in
          let R = matched (λ m n. paste m V n) (λ m. find_by S (cut S m) N) (find_by P (cut P k) M) in
          let c = count-matched (λ m n. paste m V n) (λ m. find_by S (cut S m) N) (find_by P (cut P k) M) a b (ha P (cut P k) (part_goes_down S U K C i s)) (λ m. hb S (cut S m) (contains_head S _)) in
          let d = count-those (agree C k) R in
          let e : count_of (those (agree C k) R) ≡ count_of (find_by C k (join_get U V M N)) = ap count_of (left_first_is UC VC M N hM hN C k) in
          omega arith
      | inr s ↦
          let u = keys C i in
          let P = set.intersection C V in
          let R = matched (λ n m. paste m V n) (λ n. find_by S (cut S n) M) (find_by P (cut P k) N) in
          let c = count-matched (λ n m. paste m V n) (λ n. find_by S (cut S n) M) (find_by P (cut P k) N) b a (hb P (cut P k) (part_goes_down S V K C i (shares_other C U V u.0 u.1 s))) (λ n. ha S (cut S n) (contains_head S _)) in
          let d = count-those (agree C k) R in
          let e : count_of (those (agree C k) R) ≡ count_of (find_by C k (join_get U V M N)) = ap count_of (right_first_is UC VC M N hM hN C k) in
          let f : b * a ≡ a * b = grind arith in
          omega arith
    ]

finds_in_select : (P : Row → Bool) (M : Rows) (K : List Names) (n : ℕ) → GivesAtMost n K M → GivesAtMost n K (select_get P M)
finds_in_select P M K n h C k i = grind (arith, find_select, count-those)

finds_in_project : (D : Names) (M : Rows) (K : List Names) (n : ℕ) → ((C : Names) → Contains K C → Within C D) → GivesAtMost n K M → GivesAtMost n K (project D M)
finds_in_project D M K n w h C k i = grind (arith, find_project, count-project)

finds_in_rename : (s : Shape) (A B : Name) → CanRename s A B → (M : Rows) → IsIn M s → (K : List Names) (n : ℕ) → ((C : Names) → Contains K C → Within C (renamed_names A B (names s.columns)))
    → GivesAtMost n (map (renamed_names B A) K) M → GivesAtMost n K (rename_get A B M)
unfolding rename_get
finds_in_rename s A B can M m K n w h C k i = grind (arith, find_rename, count-image, contains_map)

pub view_gives : (L : Lens) (K : List Names) (db : Tables) (w : ℕ) → IsTyped L → HasKeys L → AreOf L db → AreKeys (view_names L) K → TablesGiveAtMost w (asked L K) db → GivesAtMost (size L w) (keys_at L K) (get L db)
unfolding get drop_get size
view_gives (base t s) K db w h f a keys few = λ C k i. let g = few t C k (contains_map (λ C. (t, C)) (keys_at (base t s) K) C i) in omega arith
view_gives (select P L) K db w h f a keys few =
    let K1 = keys_at (select P L) K in
    let r = view_gives L K1 db w h.0 f a (keys_are (select P L) K h f keys) few in
    finds_in_select (holds P) (get L db) K1 (size L w) (λ C k i. r C k (Contains-append_left K1 _ C i))
view_gives (drop A X v L) K db w h f a keys few =
    let K1 = keys_at (drop A X v L) K in
    let k1 = keys_are (drop A X v L) K h f keys in
    let r = view_gives L (X ∷ K1) db w h.0 f a (drop_keys_are A X v L K1 h f k1) few in
    finds_in_project (set.difference (view_names L) (one A)) (get L db) K1 (size L w)
    (λ C i. subst (Within C) (names-without (sort_of L).columns A) (k1 C i).1)
    (λ C k i. r C k (Contains-append_left (X ∷ K1) _ C (contains_tail C X K1 i)))
view_gives (rename A B L) K db w h f a keys few =
    let K1 = keys_at (rename A B L) K in
    let k1 = keys_are (rename A B L) K h f keys in
    let K2 = map (renamed_names B A) K1 in
    let r = view_gives L K2 db w h.0 f a (renamed_keys_are A B L K1 h k1) few in
    finds_in_rename (shape_of (sort_of L)) A B (rename_can A B L h) (get L db) (to_in (get L db) (sort_of L) (get_sort L db h.0 a)) K1 (size L w)
    (λ C i. subst (Within C) (names-renamed A B (sort_of L).columns h.1.column h.1.free) (k1 C i).1)
    (λ C k i. r C k (Contains-append_left K2 _ C i))
view_gives (join kind A B) K db w h f a keys few =
    let U = view_names A in let V = view_names B in let S = set.intersection U V in
    let K1 = keys_at (join kind A B) K in
    let k1 = keys_are (join kind A B) K h f keys in
    let s = shared_keyed kind A B h f in
    let KA = side_keys S U K1 in let KB = side_keys S V K1 in
    let l = view_gives A KA db w h.0 f.0 a.0 (side_keys_are S U K1 s (λ c i. (from_shared U V c i).0)) (λ t C k i. few t C k (Contains-append_left (asked A KA) (asked B KB) (t, C) i)) in
    let r = view_gives B KB db w h.1 f.1 a.1 (side_keys_are S V K1 s (λ c i. (from_shared U V c i).1)) (λ t C k i. few t C k (Contains-append_right (asked A KA) (asked B KB) (t, C) i)) in
    let g = finds_in_join (sort_of A).columns (sort_of B).columns (get A db) (get B db) (get_sort A db h.0 a.0).columns (get_sort B db h.1 a.1).columns K1 (size A w) (size B w)
    (subst (λ W. AreKeys W K1) (names-both (sort_of A).columns (sort_of B).columns) k1)
    (λ C k i. l C k (Contains-append_left KA _ C i)) (λ C k i. r C k (Contains-append_left KB _ C i)) in
    λ C k i. let m = g C k i in let e : 2 * size A w * size B w ≡ size A w * size B w + size A w * size B w = grind arith in omega arith

-- ---- work
-- the work for one row
abbrev pub per_row : Lens → ℕ → ℕ
per_row (base t s) w = 8192 * size (base t s) w * size (base t s) w
per_row (select P L) w = 8192 * size (select P L) w * size (select P L) w + 512 * size (select P L) w * per_row L w
per_row (drop A X a L) w = 8192 * size (drop A X a L) w * size (drop A X a L) w + 512 * size (drop A X a L) w * per_row L w
per_row (rename A B L) w = 8192 * size (rename A B L) w * size (rename A B L) w + 512 * size (rename A B L) w * per_row L w
per_row (join kind A B) w = let n = size (join kind A B) w in 8192 * n * n + 512 * n * per_row A w + 512 * n * per_row B w

one_row : (d n : ℕ) → 8192 * d * n * n ≡ d * (8192 * n * n)
one_row d n = grind arith

with_child : (d n p : ℕ) → 8192 * d * n * n + 512 * d * n * p ≡ d * (8192 * n * n + 512 * n * p)
with_child d n p = grind arith

with_children : (d n p q : ℕ) → 8192 * d * n * n + 512 * d * n * p + 512 * d * n * q ≡ d * (8192 * n * n + 512 * n * p + 512 * n * q)
with_children d n p q = grind arith

pub work_is : (L : Lens) (d w : ℕ) → work L d w ≡ d * per_row L w
unfolding work
work_is (base t s) d w = one_row d (size (base t s) w)
work_is (select P L) d w = let n = size (select P L) w in ap (λ z. 8192 * d * n * n + z) (work_is L (512 * d * n) w) ∙ with_child d n (per_row L w)
work_is (drop A X a L) d w = let n = size (drop A X a L) w in ap (λ z. 8192 * d * n * n + z) (work_is L (512 * d * n) w) ∙ with_child d n (per_row L w)
work_is (rename A B L) d w = let n = size (rename A B L) w in ap (λ z. 8192 * d * n * n + z) (work_is L (512 * d * n) w) ∙ with_child d n (per_row L w)
work_is (join kind A B) d w = let n = size (join kind A B) w in
    ap (λ z. 8192 * d * n * n + z + work B (512 * d * n) w) (work_is A (512 * d * n) w)
    ∙ ap (λ z. 8192 * d * n * n + 512 * d * n * per_row A w + z) (work_is B (512 * d * n) w)
    ∙ with_children d n (per_row A w) (per_row B w)

mul-le_3 : (k : ℕ) (a b m n : ℕ) → a ≤ m → b ≤ n → k * a * b ≤ k * m * n
mul-le_3 k a b m n h i = mul-le (k * a) b (k * m) n (mul-le k a k m (omega arith) h) i

pub per_row_grows : (L : Lens) (v w : ℕ) → v ≤ w → per_row L v ≤ per_row L w
per_row_grows (base t s) v w h = let g = size_grows (base t s) v w h in mul-le_3 8192 (size (base t s) v) (size (base t s) v) (size (base t s) w) (size (base t s) w) g g
per_row_grows (select P L) v w h =
    let m = size (select P L) v in let n = size (select P L) w in
    let g = size_grows (select P L) v w h in
    let x = mul-le_3 8192 m m n n g g in
    let y = mul-le_3 512 m (per_row L v) n (per_row L w) g (per_row_grows L v w h) in
    omega arith
per_row_grows (drop A X a L) v w h =
    let m = size (drop A X a L) v in let n = size (drop A X a L) w in
    let g = size_grows (drop A X a L) v w h in
    let x = mul-le_3 8192 m m n n g g in
    let y = mul-le_3 512 m (per_row L v) n (per_row L w) g (per_row_grows L v w h) in
    omega arith
per_row_grows (rename A B L) v w h =
    let m = size (rename A B L) v in let n = size (rename A B L) w in
    let g = size_grows (rename A B L) v w h in
    let x = mul-le_3 8192 m m n n g g in
    let y = mul-le_3 512 m (per_row L v) n (per_row L w) g (per_row_grows L v w h) in
    omega arith
per_row_grows (join kind A B) v w h =
    let m = size (join kind A B) v in let n = size (join kind A B) w in
    let g = size_grows (join kind A B) v w h in
    let x = mul-le_3 8192 m m n n g g in
    let y = mul-le_3 512 m (per_row A v) n (per_row A w) g (per_row_grows A v w h) in
    let z = mul-le_3 512 m (per_row B v) n (per_row B w) g (per_row_grows B v w h) in
    omega arith

pub work_grows : (L : Lens) (d e v w : ℕ) → d ≤ e → v ≤ w → work L d v ≤ work L e w
work_grows L d e v w h k = grind (arith, work_is, mul-le, per_row_grows)

-- what a node does itself, and what its children do
pub node_within : (L : Lens) (d w : ℕ) → node_work d (size L w) ≤ work L d w
unfolding work
node_within (base t s) d w = omega arith
node_within (select P L) d w = omega arith
node_within (drop A X a L) d w = omega arith
node_within (rename A B L) d w = omega arith
node_within (join kind A B) d w = omega arith

pub keyed_work : (L : Lens) (d e w : ℕ) → e ≤ 8192 → e * d * size L w ≤ work L d w
keyed_work L d e w h =
    let n = size L w in
    let a : e * d * n ≤ 8192 * d * n = mul-le (e * d) n (8192 * d) n (mul-le e d 8192 d h (omega arith)) (omega arith) in
    let b : 8192 * d * n * 1 ≤ 8192 * d * n * n = mul-le (8192 * d * n) 1 (8192 * d * n) n (omega arith) (size_some L w) in
    let c = node_within L d w in
    let f : 8192 * d * n * 1 ≡ 8192 * d * n = grind arith in
    omega arith

pub select_work : (P : Predicate) (L : Lens) (d e w x : ℕ) → let n = size (select P L) w in x ≤ node_work d n → e ≤ rows_down d n → x + work L e w ≤ work (select P L) d w
unfolding work
select_work P L d e w x h k = let g = work_grows L e (rows_down d (size (select P L) w)) w w k (omega arith) in omega arith

pub drop_work : (A : Name) (X : Names) (a : Value) (L : Lens) (d e w x : ℕ) → let n = size (drop A X a L) w in x ≤ node_work d n → e ≤ rows_down d n → x + work L e w ≤ work (drop A X a L) d w
unfolding work
drop_work A X a L d e w x h k = let g = work_grows L e (rows_down d (size (drop A X a L) w)) w w k (omega arith) in omega arith

pub rename_work : (A B : Name) (L : Lens) (d e w x : ℕ) → let n = size (rename A B L) w in x ≤ node_work d n → e ≤ rows_down d n → x + work L e w ≤ work (rename A B L) d w
unfolding work
rename_work A B L d e w x h k = let g = work_grows L e (rows_down d (size (rename A B L) w)) w w k (omega arith) in omega arith

pub join_work : (kind : JoinKind) (A B : Lens) (d e f w x : ℕ) → let n = size (join kind A B) w in x ≤ node_work d n → e ≤ rows_down d n → f ≤ rows_down d n → x + work A e w + work B f w ≤ work (join kind A B) d w
unfolding work
join_work kind A B d e f w x h k l = grind (arith, work_grows)

-- ---- edges with right sides apart are no more than the columns
one_less : (U : Names) (c : Name) → set.contains U c ≡ true → suc (length (set.items (set.remove U c))) ≤ length (set.items U)
unfolding set.remove set.contains
one_less U c i =
    let e = finmap.len-remove name_total U c in
    let f : length (set.items (set.remove U c)) ≡ finmap.len U - 1 = sym (names_len (set.remove U c)) ∙ e ∙ ap (λ b. cond b (finmap.len U - 1) (finmap.len U)) i in
    let g = names_len U in
    let h = filled_from U c i in
    omega arith

edges_few : (T : List Edge) (U : Names) → IsTree T → AllEdges (λ e. IsFilled e.right) T → AllEdges (λ e. Within e.right U) T → length T ≤ length (set.items U)
edges_few [] U tree full within = omega arith
edges_few (e ∷ es) U tree full within =
    let c = filled_has e.right full.0 in
    let h = edges_few es (set.remove U c.0) tree.2 full.1
    (both_edges (IsBefore e) (λ k. Within k.right U) (λ k. Within k.right (set.remove U c.0))
    (λ k b w d i. set.contains-remove name_total U c.0 d ∙ and_from _ _ (not_from_false _ (false_from_ne_true _ (λ t. absurd_false _ i (ap (set.contains k.right) (tied_name d c.0 t) ∙ b.rights c.0 c.1)))) (w d i)) es tree.1 within.1) in
    let g = one_less U c.0 (within.0 c.0 c.1) in
    omega arith

pub view_edges_few : (L : Lens) → IsTyped L → HasKeys L → length (sort_of L).tree ≤ length (set.items (view_names L))
view_edges_few L h k = grind (arith, edges_few, sound, rights_keyed, each_edge)
