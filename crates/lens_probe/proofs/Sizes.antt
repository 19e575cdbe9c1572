-- How many looks a look-up takes, at each root of a lens.
use Rattle.std.proofs.Common.{◌≡◌, ◌∙◌, ◌∷◌, ◌+◌, ◌*◌, ◌≤◌, ◌≢◌, ℕ, List, [], ap, arith, length, subst, sym, true, false, inl, inr, IfOk, OnErr, Result, Ok, Err}
use Rattle.plain_values.proofs.Common.{Contains, Contains-append_left, Contains-append_right, mul-le, restrict, Row, same_is, or_cases}
use Rattle.no_memory.specs.declared.NoMemory.{NoMemory}
use Rattle.plain_values.specs.SortedSet as set
use Rattle.plain_values.specs.declared.value.Value.{Value}
use Rattle.plain_values.specs.declared.join_kind.JoinKind.{JoinKind}
use Rattle.lens_specs.specs.Common.{Lens, base, select, drop, get, view_names, Name, Names, same_names, share, Predicate, Rows, those, agree, Sort, AllEdges, Edge, join}
use Rattle.lens_laws.proofs.Common.{keys_at, left_sides, Reaches, find_by, IsTyped, GivesAtMost, count_of, size, contains_head, contains_map, contains_tail, keys_reach, size_some}
use Rattle.lens_laws.proofs.Work.{join_looks, view_gives}
use Rattle.base_index.specs.Held.{State, relation_in}
use Rattle.lens_probe.specs.Looking.{FindsWithin, LooksWithin, find_part}
use Rattle.lens_probe.specs.Viewed.{FindsAtMost, IsViewed, IsWithin, Viewed, asked_by, is_left_side, shown}
use Rattle.fd_tree.specs.Sides.{HasLeft}
use Rattle.view_reading.proofs.Bases.{rows_shown}
use Rattle.lens_probe.proofs.Viewing.{under_drop, under_left, under_right, under_select}

-- a look-up gives no more rows than the lens's size
pub gives : (L : Lens) (st : State) (C : Names) (k : Row) (w : ℕ) → IsTyped L → FindsWithin L st C w → count_of (find_by C k (get L st.relations)) ≤ size L w
gives L st C k w typed f = view_gives L f.0 st.relations w typed f.1.keys f.1.tables f.1.sets f.3 C k f.2

-- ---- a table

base_gives : (t : Name) (s : Sort) (st : State) (C : Names) (k : Row) (w : ℕ) → FindsWithin (base t s) st C w → count_of (find_by C k (get (base t s) st.relations)) ≤ w
unfolding get
base_gives t s st C k w f = f.3 t C k (contains_map (λ D. (t, D)) (keys_at (base t s) f.0) C f.2)

base_size : (t : Name) (s : Sort) (w : ℕ) → size (base t s) w ≡ 1 + w
unfolding size
base_size t s w = omega arith

found_within : (r : Result Rows NoMemory) (M : Rows) (old new w : ℕ) → count_of M ≤ w → IfOk r (λ found. found ≡ M) → IfOk r (λ found. new ≡ old + 1 + count_of found) → OnErr r (new ≡ old + 1) → new ≤ old + (1 + w)
found_within (Ok found) M old new w few is all none = let same = ap count_of is in omega arith
found_within (Err e) M old new w few is all none = omega arith

-- one look, and one for each row found
pub table_looks : (r : Result Rows NoMemory) (L : Lens) (t : Name) (s : Sort) (st : State) (C : Names) (k : Row) (w old new : ℕ) → base t s ≡ L → FindsWithin L st C w
    → IfOk r (λ found. found ≡ those (agree C k) (relation_in st.relations t).rows) → IfOk r (λ found. new ≡ old + 1 + count_of found) → OnErr r (new ≡ old + 1) → new ≤ old + size L w
table_looks r L t s st C k w old new is f found all none =
    let here = subst (λ M. FindsWithin M st C w) (sym is) f in
    let few : count_of (those (agree C k) (relation_in st.relations t).rows) ≤ w =
    subst (λ M. count_of (find_by C k M) ≤ w) (sym (rows_shown (base t s) t s st.relations (ap (λ M. M) (λ i. base t s)))) (base_gives t s st C k w here) in
    let within = found_within r (those (agree C k) (relation_in st.relations t).rows) old new w few found all none in
    let same = sym (ap (λ M. size M w) is) ∙ base_size t s w in
    omega (arith, within, same)

pub table_look : (L : Lens) (t : Name) (s : Sort) (w old new : ℕ) → base t s ≡ L → new ≡ old + 1 → new ≤ old + size L w
table_look L t s w old new is now =
    let same = sym (ap (λ M. size M w) is) ∙ base_size t s w in
    omega (arith, same, now)

-- ---- a selection

select_size : (P : Predicate) (S : Lens) (w : ℕ) → size S w ≡ size (select P S) w
unfolding size
select_size P S w = λ i. size S w

pub selected_size : (L S : Lens) (P : Predicate) (w : ℕ) → select P S ≡ L → size S w ≡ size L w
selected_size L S P w is = select_size P S w ∙ ap (λ M. size M w) is

select_down : (P : Predicate) (S : Lens) (st : State) (C : Names) (w : ℕ) → IsTyped (select P S) → FindsWithin (select P S) st C w → FindsWithin S st C w
select_down P S st C w typed f =
    let K = f.0 in let can = f.1 in
    (keys_at (select P S) K, under_select P S K st typed can, (keys_reach (select P S) K typed can.keys can.sets C f.2).0, f.3)

pub under_selected : (L S : Lens) (P : Predicate) (st : State) (C : Names) (w : ℕ) → select P S ≡ L → IsTyped L → FindsWithin L st C w → FindsWithin S st C w
under_selected L S P st C w is typed f = select_down P S st C w (subst IsTyped (sym is) typed) (subst (λ M. FindsWithin M st C w) (sym is) f)

select_looks_down : (P : Predicate) (S : Lens) (st : State) (w : ℕ) → IsTyped (select P S) → LooksWithin (select P S) st w → LooksWithin S st w
select_looks_down P S st w typed f = (keys_at (select P S) f.0, under_select P S f.0 st typed f.1, f.2)

pub look_under_selected : (L S : Lens) (P : Predicate) (st : State) (w : ℕ) → select P S ≡ L → IsTyped L → LooksWithin L st w → LooksWithin S st w
look_under_selected L S P st w is typed f = select_looks_down P S st w (subst IsTyped (sym is) typed) (subst (λ M. LooksWithin M st w) (sym is) f)

-- ---- a projection

drop_size : (A : Name) (X : Names) (v : Value) (S : Lens) (w : ℕ) → size S w ≡ size (drop A X v S) w
unfolding size
drop_size A X v S w = λ i. size S w

pub dropped_size : (L S : Lens) (A : Name) (X : Names) (v : Value) (w : ℕ) → drop A X v S ≡ L → size S w ≡ size L w
dropped_size L S A X v w is = drop_size A X v S w ∙ ap (λ M. size M w) is

drop_down : (A : Name) (X : Names) (v : Value) (S : Lens) (st : State) (C : Names) (w : ℕ) → IsTyped (drop A X v S) → FindsWithin (drop A X v S) st C w → FindsWithin S st C w
drop_down A X v S st C w typed f =
    let K = f.0 in let can = f.1 in
    (X ∷ keys_at (drop A X v S) K, under_drop A X v S K st typed can, (keys_reach (drop A X v S) K typed can.keys can.sets C f.2).0.0, f.3)

pub under_dropped : (L S : Lens) (A : Name) (X : Names) (v : Value) (st : State) (C : Names) (w : ℕ) → drop A X v S ≡ L → IsTyped L → FindsWithin L st C w → FindsWithin S st C w
under_dropped L S A X v st C w is typed f = drop_down A X v S st C w (subst IsTyped (sym is) typed) (subst (λ M. FindsWithin M st C w) (sym is) f)

drop_looks_down : (A : Name) (X : Names) (v : Value) (S : Lens) (st : State) (w : ℕ) → IsTyped (drop A X v S) → LooksWithin (drop A X v S) st w → FindsWithin S st X w
drop_looks_down A X v S st w typed f =
    let K1 = X ∷ keys_at (drop A X v S) f.0 in
    (K1, under_drop A X v S f.0 st typed f.1, Contains-append_left K1 _ X (contains_head X _), f.2)

pub look_under_dropped : (L S : Lens) (A : Name) (X : Names) (v : Value) (st : State) (w : ℕ) → drop A X v S ≡ L → IsTyped L → LooksWithin L st w → FindsWithin S st X w
look_under_dropped L S A X v st w is typed f = drop_looks_down A X v S st w (subst IsTyped (sym is) typed) (subst (λ M. LooksWithin M st w) (sym is) f)

-- ---- a join

join_size : (kind : JoinKind) (A B : Lens) (w : ℕ) → size (join kind A B) w ≡ 2 * size A w * size B w
unfolding size
join_size kind A B w = λ i. 2 * size A w * size B w

-- what is asked of each side alone is within the size of the join
left_within : (kind : JoinKind) (A B : Lens) (w old new : ℕ) → new ≤ old + size A w → new ≤ old + size (join kind A B) w
left_within kind A B w old new h =
    let s = join_size kind A B w in
    let j = (join_looks (size A w) (size B w) (size_some A w) (size_some B w)).2 in
    omega (arith, s, j, h)

pub both_within : (kind : JoinKind) (A B : Lens) (w old mid new : ℕ) → mid ≤ old + size A w → new ≤ mid + size B w → new ≤ old + size (join kind A B) w
both_within kind A B w old mid new h k =
    let s = join_size kind A B w in
    let j = (join_looks (size A w) (size B w) (size_some A w) (size_some B w)).2 in
    omega (arith, s, j, h, k)

-- so is a look-up on one side, and one on the other for each row found
pub left_first : (kind : JoinKind) (A B : Lens) (w old new : ℕ) → new ≤ old + (size A w + size A w * size B w) → new ≤ old + size (join kind A B) w
left_first kind A B w old new h =
    let s = join_size kind A B w in
    let j = (join_looks (size A w) (size B w) (size_some A w) (size_some B w)).0 in
    omega (arith, s, j, h)

pub right_first : (kind : JoinKind) (A B : Lens) (w old new : ℕ) → new ≤ old + (size B w + size B w * size A w) → new ≤ old + size (join kind A B) w
right_first kind A B w old new h =
    let s = join_size kind A B w in
    let j = (join_looks (size A w) (size B w) (size_some A w) (size_some B w)).1 in
    omega (arith, s, j, h)

pub pairs_looks : (a b n old mid new : ℕ) → n ≤ a → mid ≤ old + a → new ≤ mid + b * n → new ≤ old + (a + a * b)
pairs_looks a b n old mid new few h k =
    let m : b * n ≤ b * a = mul-le b n b a (omega arith) few in
    let e : b * a ≡ a * b = grind arith in
    omega (arith, h, k, m, e)

-- few rows are found on the side that is asked first
pub part_few : (A : Lens) (st : State) (C : Names) (k : Row) (w : ℕ) (F : Rows) (rows : List Row) → IsTyped A → FindsWithin A st (set.intersection C (view_names A)) w → F ≡ find_part C k (view_names A) (get A st.relations)
    → rows ≡ set.items F → length rows ≤ size A w
part_few A st C k w F rows typed within found listed =
    let P = set.intersection C (view_names A) in
    let few = gives A st P (restrict P k) w typed within in
    let same = ap length listed ∙ ap count_of found in
    omega (arith, few, same)

module _ (kind : JoinKind) (A B : Lens) (st : State) (C : Names) (w : ℕ) (typed : IsTyped (join kind A B)) (f : FindsWithin (join kind A B) st C w) where
  reach : Reaches (join kind A B) f.0 C
  reach = keys_reach (join kind A B) f.0 typed f.1.keys f.1.sets C f.2

  pub left_part : share C (view_names A) ≡ true → FindsWithin A st (set.intersection C (view_names A)) w
  left_part meets = (_, under_left kind A B f.0 st typed f.1, (reach.0 meets).0, λ t D k i. f.3 t D k (Contains-append_left _ _ (t, D) i))

  pub right_part : share C (view_names A) ≡ false → FindsWithin B st (set.intersection C (view_names B)) w
  right_part apart = (_, under_right kind A B f.0 st typed f.1, (reach.1 apart).0, λ t D k i. f.3 t D k (Contains-append_right _ _ (t, D) i))

  pub left_shared : (S : Names) → S ≡ set.intersection (view_names A) (view_names B) → FindsWithin A st S w
  left_shared S shared = subst (λ D. FindsWithin A st D w) (sym shared) (_, under_left kind A B f.0 st typed f.1, reach.2.0, λ t D k i. f.3 t D k (Contains-append_left _ _ (t, D) i))

  pub right_shared : (S : Names) → S ≡ set.intersection (view_names A) (view_names B) → FindsWithin B st S w
  right_shared S shared = subst (λ D. FindsWithin B st D w) (sym shared) (_, under_right kind A B f.0 st typed f.1, reach.3.0, λ t D k i. f.3 t D k (Contains-append_right _ _ (t, D) i))

join_looks_left : (kind : JoinKind) (A B : Lens) (st : State) (w : ℕ) → IsTyped (join kind A B) → LooksWithin (join kind A B) st w → LooksWithin A st w
join_looks_left kind A B st w typed f = (_, under_left kind A B f.0 st typed f.1, λ t D k i. f.2 t D k (Contains-append_left _ _ (t, D) i))

join_looks_right : (kind : JoinKind) (A B : Lens) (st : State) (w : ℕ) → IsTyped (join kind A B) → LooksWithin (join kind A B) st w → LooksWithin B st w
join_looks_right kind A B st w typed f = (_, under_right kind A B f.0 st typed f.1, λ t D k i. f.2 t D k (Contains-append_right _ _ (t, D) i))

pub look_left : (kind : JoinKind) (L A B : Lens) (st : State) (w : ℕ) → join kind A B ≡ L → IsTyped L → LooksWithin L st w → LooksWithin A st w
look_left kind L A B st w is typed f = join_looks_left kind A B st w (subst IsTyped (sym is) typed) (subst (λ M. LooksWithin M st w) (sym is) f)

pub look_right : (kind : JoinKind) (L A B : Lens) (st : State) (w : ℕ) → join kind A B ≡ L → IsTyped L → LooksWithin L st w → LooksWithin B st w
look_right kind L A B st w is typed f = join_looks_right kind A B st w (subst IsTyped (sym is) typed) (subst (λ M. LooksWithin M st w) (sym is) f)

pub left_alone : (kind : JoinKind) (L A B : Lens) (w old new : ℕ) → join kind A B ≡ L → new ≤ old + size A w → new ≤ old + size L w
left_alone kind L A B w old new is h = subst (λ M. new ≤ old + size M w) is (left_within kind A B w old new h)

pub both_sides : (kind : JoinKind) (L A B : Lens) (w old mid new : ℕ) → join kind A B ≡ L → mid ≤ old + size A w → new ≤ mid + size B w → new ≤ old + size L w
both_sides kind L A B w old mid new is h k = subst (λ M. new ≤ old + size M w) is (both_within kind A B w old mid new h k)

-- ---- a view

-- no more rows are found than are few
pub found_few : (r : Result Rows NoMemory) (M : Rows) (P : ℕ → Type 0) → IfOk r (λ found. found ≡ M) → ((n : ℕ) → P n → count_of M ≤ n) → IfOk r (λ found. (n : ℕ) → P n → count_of found ≤ n)
found_few (Ok found) M P is few = λ n p. let same = ap count_of is in let h = few n p in omega (arith, same, h)
found_few (Err e) M P is few = tt

-- what the view is asked by, it may find
pub viewed_finds : (v : Viewed) (C : Names) (w : ℕ) → IsViewed v → Contains (asked_by v) C → FindsAtMost v w → FindsWithin v.lens v.tables.present C w
viewed_finds v C w is asked few = (v.sets, is.1, asked, few)

pub viewed_gives : (v : Viewed) (n : ℕ) → IsViewed v → IsWithin v n → GivesAtMost n (asked_by v) (shown v).rows
viewed_gives v n is within C k i =
    let m = gives v.lens v.tables.present C k within.0 is.0 (viewed_finds v C within.0 is i within.1) in
    let le = within.2 in
    omega (arith, m, le)

pub some_within : (v : Viewed) (n : ℕ) → IsWithin v n → 1 ≤ n
some_within v n within =
    let s = size_some v.lens within.0 in
    let le = within.2 in
    omega (arith, s, le)

-- ---- left sides

pub left_side_in : (C : Names) (T : List Edge) → is_left_side C T ≡ true → Contains (left_sides T) C
left_side_in C [] h = cc
left_side_in C (e ∷ es) h = elim (or_cases (same_names e.left C) (is_left_side C es) h) [
  | inl s ↦ subst (λ Z. Contains (e.left ∷ left_sides es) Z) (same_is e.left C s) (contains_head e.left (left_sides es))
  | inr j ↦ contains_tail C e.left (left_sides es) (left_side_in C es j)
]

pub left_side_full : (C : Names) (T : List Edge) → AllEdges HasLeft T → is_left_side C T ≡ true → length (set.items C) ≢ 0
left_side_full C [] full h = cc
left_side_full C (e ∷ es) full h = elim (or_cases (same_names e.left C) (is_left_side C es) h) [
  | inl s ↦ subst (λ Z. length (set.items Z) ≢ 0) (same_is e.left C s) full.0
  | inr j ↦ left_side_full C es full.1 j
]
