-- How many rows the differences at the nodes have.
use Rattle.std.proofs.Common.{◌≡◌, ℕ, suc, ◌+◌, ◌*◌, ◌≤◌, Bool, List, [], ◌∷◌, length, arith}
use Rattle.plain_values.proofs.Common.{length-append, mul-le, Row}
use Rattle.plain_values.specs.SortedSet as set
use Rattle.lens_laws.proofs.Asked.{contains_head, contains_tail}
use Rattle.lens_laws.proofs.Counts.{count-from_list, count-none, count-those, count-within, count-image, count-project}
use Rattle.fd_laws.proofs.Common.{from_minus}
use Rattle.lens_specs.specs.Common.{Delta, new_view, Edge, Name, Names, renamed_row, rename_put, Rows, union, minus, project, revise, revise_row}
use Rattle.lens_laws.specs.Asked.{left_sides}
use Rattle.lens_laws.specs.Rename.{rename_delta}
use Rattle.lens_laws.specs.JoinKinds.{is_kept, is_free, less_delta, join_delta_left_kept, join_delta_right_free}
use Rattle.lens_laws.specs.KeyedDeltas.{find_by, found_each, found, is_changed, touched, select_touched, select_delta, merge_delta, join_delta_right, suspects, is_over, join_delta_left}
use Rattle.lens_laws.specs.Work.{count_of, rows_of, rows_down, GivesAtMost}

count-union : (M N : Rows) → count_of (union M N) ≤ count_of M + count_of N
unfolding set.union
count-union M N = grind (arith, count-from_list, length-append)

count-minus : (M N : Rows) → count_of (minus M N) ≤ count_of M
count-minus M N = count-within (minus M N) M (λ r i. (from_minus M N r i).0)

pub count-revise : (T : List Edge) (M L : Rows) → count_of (revise T M L) ≤ count_of M
unfolding revise
count-revise T M L = count-image (λ m. revise_row T m L) M

-- ---- rows found
count-found_each : (C : Names) (M : Rows) (ls : List Row) (n : ℕ) → ((k : Row) → count_of (find_by C k M) ≤ n) → count_of (found_each C M ls) ≤ length ls * n
count-found_each C M [] n h = let e = count-none in omega arith
count-found_each C M (l ∷ ls) n h =
    let i = count-found_each C M ls n h in
    let j = h l in
    let u = count-union (find_by C l M) (found_each C M ls) in
    let step : suc (length ls) * n ≡ n + length ls * n = grind arith in
    omega arith

count-found : (F : List Edge) (M L : Rows) (n : ℕ) → GivesAtMost n (left_sides F) M → count_of (found F M L) ≤ length F * (count_of L * n)
unfolding found
count-found [] M L n h = let e = count-none in omega arith
count-found (e ∷ es) M L n h =
    let i = count-found es M L n (λ C k j. h C k (contains_tail C e.left (left_sides es) j)) in
    let j = count-found_each e.left M (set.items L) n (λ k. h e.left k (contains_head e.left (left_sides es))) in
    let u = count-union (found_each e.left M (set.items L)) (found es M L) in
    let step : suc (length es) * (count_of L * n) ≡ count_of L * n + length es * (count_of L * n) = grind arith in
    omega arith

pub count-touched : (F : List Edge) (M L : Rows) (n : ℕ) → GivesAtMost n (left_sides F) M → count_of (touched F M L) ≤ length F * (count_of L * n)
unfolding touched
count-touched F M L n h = let i = count-found F M L n h in let j = count-those (is_changed F L) (found F M L) in omega arith

pub touched_few : (F : List Edge) (M L : Rows) (n : ℕ) → length F ≤ 64 → GivesAtMost n (left_sides F) M → count_of (touched F M L) ≤ 64 * (count_of L * n)
touched_few F M L n few h =
    let i = count-touched F M L n h in
    let j = mul-le (length F) (count_of L * n) 64 (count_of L * n) few (omega arith) in
    omega arith

-- ---- one node
within_down : (r a n t x y : ℕ) → 1 ≤ n → t ≤ 64 * (a * n) → x ≤ r + t → y ≤ a + t → x + y ≤ 512 * (r + a) * n
within_down r a n t x y hn ht hx hy = grind (arith, mul-le)

pub select_delta_small : (F : List Edge) (P : Row → Bool) (M : Rows) (d : Delta) (n : ℕ) → length F ≤ 64 → 1 ≤ n → GivesAtMost n (left_sides F) M → rows_of (select_delta F P M d) ≤ rows_down (rows_of d) n
unfolding select_delta select_touched
select_delta_small F P M d n few some h = grind (arith, touched_few, count-those, count-union, count-revise, within_down)

pub rename_delta_small : (A B : Name) (d : Delta) → rows_of (rename_delta A B d) ≤ rows_of d
unfolding rename_delta rename_put
rename_delta_small A B d = let h = count-image (renamed_row B A) d.remove in let i = count-image (renamed_row B A) d.add in omega arith

merge_removes_few : (F : List Edge) (M A : Rows) (n : ℕ) → length F ≤ 64 → GivesAtMost n (left_sides F) M → count_of (merge_delta F M A).remove ≤ 64 * (count_of A * n)
unfolding merge_delta
merge_removes_few F M A n few h = touched_few F M A n few h

pub merge_adds_few : (F : List Edge) (M A : Rows) (n : ℕ) → length F ≤ 64 → GivesAtMost n (left_sides F) M → count_of (merge_delta F M A).add ≤ 64 * (count_of A * n) + count_of A
unfolding merge_delta
merge_adds_few F M A n few h = grind (arith, touched_few, count-revise, count-minus, count-union)

right_removes : (V : Names) (G : List Edge) (N : Rows) (d : Delta) (n : ℕ) → length G ≤ 64 → GivesAtMost n (left_sides G) N → count_of (join_delta_right V G N d).remove ≤ 64 * (count_of d.add * n)
right_removes V G N d n few h =
    let p = count-project V d.add in
    let m = merge_removes_few G N (project V d.add) n few h in
    let k = mul-le (count_of (project V d.add)) n (count_of d.add) n p (omega arith) in
    omega arith

right_adds : (V : Names) (G : List Edge) (N : Rows) (d : Delta) (n : ℕ) → length G ≤ 64 → GivesAtMost n (left_sides G) N → count_of (join_delta_right V G N d).add ≤ 64 * (count_of d.add * n) + count_of d.add
right_adds V G N d n few h =
    let p = count-project V d.add in
    let m = merge_adds_few G N (project V d.add) n few h in
    let k = mul-le (count_of (project V d.add)) n (count_of d.add) n p (omega arith) in
    omega arith

-- every product with fewer factors is within the greatest one
under : (a d n1 n2 : ℕ) → a ≤ d → 1 ≤ n1 → 1 ≤ n2 → (a ≤ d * (n1 * n2)) × (a * n1 ≤ d * (n1 * n2)) × (a * n2 ≤ d * (n1 * n2)) × (a * n2 * n1 ≤ d * (n1 * n2))
under a d n1 n2 h h1 h2 = grind (arith, mul-le)

pub right_delta_small : (V : Names) (G : List Edge) (N : Rows) (d : Delta) (n1 n2 : ℕ) → length G ≤ 64 → 1 ≤ n1 → 1 ≤ n2 → GivesAtMost n2 (left_sides G) N → rows_of (join_delta_right V G N d) ≤ rows_down (rows_of d) (2 * n1 * n2)
right_delta_small V G N d n1 n2 few h1 h2 h = grind (arith, right_removes, right_adds, under)

suspects_few : (S U : Names) (M : Rows) (d : Delta) (added : Rows) (n : ℕ) → ((k : Row) → count_of (find_by S k M) ≤ n) → count_of (suspects S U M d added) ≤ count_of d.remove + count_of added * n
unfolding suspects
suspects_few S U M d added n h = grind (arith, count-project, count-found_each, count-union)

-- a difference less some rows has at most the suspects besides
less_count : (test : Row → Bool) (suspected : Rows) (d : Delta) → rows_of (less_delta test suspected d) ≤ rows_of d + count_of suspected
less_count test suspected d = grind (arith, count-those, count-union)

-- a source merged along F, less suspects under the key of what comes on the other side
both_few : (S W : Names) (F : List Edge) (M : Rows) (d : Delta) (added : Rows) (test : Row → Bool) (a b : ℕ) → length F ≤ 64 → 1 ≤ a → 1 ≤ b → GivesAtMost a (S ∷ left_sides F) M
    → count_of added ≤ 64 * (count_of d.add * b) + count_of d.add → rows_of (less_delta test (suspects S W M d added) (merge_delta F M (project W d.add))) ≤ rows_down (rows_of d) (2 * a * b)
both_few S W F M d added test a b few ha hb h other =
    let keys : GivesAtMost a (left_sides F) M = λ C k i. h C k (contains_tail C S (left_sides F) i) in
    let p = count-project W d.add in
    let k = mul-le (count_of (project W d.add)) a (count_of d.add) a p (omega arith) in
    let x = merge_removes_few F M (project W d.add) a few keys in
    let y = merge_adds_few F M (project W d.add) a few keys in
    let c = suspects_few S W M d added a (λ q. h S q (contains_head S (left_sides F))) in
    let l = less_count test (suspects S W M d added) (merge_delta F M (project W d.add)) in
    let z : count_of added * a ≤ (64 * (count_of d.add * b) + count_of d.add) * a = mul-le (count_of added) a (64 * (count_of d.add * b) + count_of d.add) a other (omega arith) in
    let z' : (64 * (count_of d.add * b) + count_of d.add) * a ≡ 64 * (count_of d.add * b * a) + count_of d.add * a = grind arith in
    let w = under (count_of d.add) (rows_of d) a b (omega arith) ha hb in
    let v = under (count_of d.remove) (rows_of d) a b (omega arith) ha hb in
    let w0 = w.0 in let w1 = w.1 in let w3 = w.3 in let v0 = v.0 in
    let last : 512 * rows_of d * (2 * a * b) ≡ 1024 * (rows_of d * (a * b)) = grind arith in
    omega arith

left_adds : (U : Names) (F : List Edge) (M : Rows) (d : Delta) (a : ℕ) → length F ≤ 64 → GivesAtMost a (left_sides F) M → count_of (merge_delta F M (project U d.add)).add ≤ 64 * (count_of d.add * a) + count_of d.add
left_adds U F M d a few h =
    let p = count-project U d.add in
    let m = merge_adds_few F M (project U d.add) a few h in
    let k = mul-le (count_of (project U d.add)) a (count_of d.add) a p (omega arith) in
    omega arith

pub left_delta_small : (U V : Names) (F G : List Edge) (M N O : Rows) (d : Delta) (a b : ℕ) → length F ≤ 64 → length G ≤ 64 → 1 ≤ a → 1 ≤ b
    → GivesAtMost a (set.intersection U V ∷ left_sides F) M → GivesAtMost b (left_sides G) N → rows_of (join_delta_left U V F G M N O d) ≤ rows_down (rows_of d) (2 * a * b)
unfolding join_delta_left
left_delta_small U V F G M N O d a b fewF fewG ha hb hM hN =
    let S = set.intersection U V in
    let right = join_delta_right V G N d in
    both_few S U F M d right.add (is_over S V (new_view N right) O) a b fewF ha hb hM (right_adds V G N d b fewG hN)

pub left_kept_small : (U V : Names) (F G : List Edge) (M N O : Rows) (d : Delta) (a b : ℕ) → length F ≤ 64 → length G ≤ 64 → 1 ≤ a → 1 ≤ b
    → GivesAtMost a (set.intersection U V ∷ left_sides F) M → GivesAtMost b (left_sides G) N → rows_of (join_delta_left_kept U V F G M N O d) ≤ rows_down (rows_of d) (2 * a * b)
unfolding join_delta_left_kept
left_kept_small U V F G M N O d a b fewF fewG ha hb hM hN =
    let S = set.intersection U V in
    let right = join_delta_right V G N d in
    both_few S U F M d right.add (is_kept S V (new_view N right) O) a b fewF ha hb hM (right_adds V G N d b fewG hN)

pub right_free_small : (U V : Names) (F G : List Edge) (M N O : Rows) (d : Delta) (a b : ℕ) → length F ≤ 64 → length G ≤ 64 → 1 ≤ a → 1 ≤ b
    → GivesAtMost a (left_sides F) M → GivesAtMost b (set.intersection U V ∷ left_sides G) N → rows_of (join_delta_right_free U V F G M N O d) ≤ rows_down (rows_of d) (2 * a * b)
unfolding join_delta_right_free
right_free_small U V F G M N O d a b fewF fewG ha hb hM hN =
    let S = set.intersection U V in
    let left = merge_delta F M (project U d.add) in
    let few = both_few S V G N d left.add (is_free S V (new_view M left) O) b a fewG hb ha hN (left_adds U F M d a fewF hM) in
    let turn : 512 * rows_of d * (2 * b * a) ≡ 512 * rows_of d * (2 * a * b) = grind arith in
    omega arith
