-- How many rows an edit of a join becomes, and how many looks it takes.
use Rattle.std.proofs.Common.{◌≡◌, ℕ, suc, ◌+◌, ◌*◌, ◌≤◌, List, [], ◌∷◌, length, sym, ap, subst, inl, inr, arith}
use Rattle.plain_values.proofs.Common.{mul-le, Contains, Row, absurd_false}
use Rattle.plain_values.specs.SortedSet as set
use Rattle.lens_specs.specs.Common.{Delta, AllEdges, Edge, Names, Rows, minus, project, union, revise}
use Rattle.lens_laws.proofs.Common.{left_sides, find_by, found_each, merge_delta, suspects, touched, count_of, node_work, GivesAtMost, count-none, count-within, contains_cases}
use Rattle.lens_laws.proofs.DeltaCounts.{count-revise, touched_few, merge_adds_few}
use Rattle.fd_laws.proofs.Common.{from_minus, from_union}
use Rattle.signed_delta.proofs.Gives.{gives_by_edges}
use Rattle.signed_delta.proofs.Counts.{project_len, union_len}

-- ---- looks, one call after another

-- the right rows of each row, and both parts of each pair
pub over_looks : (a b x p old found now : ℕ) → p ≤ x → found ≤ old + b * x → now ≤ found + (a + b) * p → now ≤ old + (a + 2 * b) * x
over_looks a b x p old found now few h k =
    let m : (a + b) * p ≤ (a + b) * x = mul-le (a + b) p (a + b) x (omega arith) few in
    let s : (a + 2 * b) * x ≡ b * x + (a + b) * x = grind arith in
    omega arith

pub found_looks : (a b x old found : ℕ) → found ≤ old + b * x → found ≤ old + (a + 2 * b) * x
found_looks a b x old found h =
    let s : (a + 2 * b) * x ≡ b * x + (a + b) * x = grind arith in
    omega arith

-- ---- rows

pub part_few : (C D : Names) (M N rows : Rows) → rows ≡ project C M → M ≡ N → count_of rows ≤ count_of N
part_few C D M N rows is same =
    let s = ap count_of is in
    let p = project_len C M in
    let e = ap count_of same in
    omega arith

-- and beside its own rows
pub revised_few : (F : List Edge) (M A : Rows) (n : ℕ) → length F ≤ 64 → GivesAtMost n (left_sides F) M → count_of (minus (merge_delta F M A).add A) ≤ 64 * (count_of A * n)
unfolding merge_delta
revised_few F M A n few h =
    let R = revise F (touched F M A) A in
    let t = touched_few F M A n few h in
    let c = count-revise F (touched F M A) A in
    let w = count-within (minus (union R (minus A M)) A) R (λ r i.
    let v = from_minus (union R (minus A M)) A r i in
    elim (from_union R (minus A M) r v.0) [ inl j ↦ j | inr j ↦ absurd_false _ (from_minus A M r j).0 v.1 ]) in
    omega arith

found_few : (C : Names) (M : Rows) (ls : List Row) (n : ℕ) → ((k : Row) → count_of (find_by C k M) ≤ n) → count_of (found_each C M ls) ≤ n * length ls
found_few C M [] n h = let e = count-none in omega arith
found_few C M (l ∷ ls) n h =
    let i = found_few C M ls n h in
    let j = h l in
    let u = union_len (find_by C l M) (found_each C M ls) in
    let s : n * suc (length ls) ≡ n + n * length ls = grind arith in
    omega arith

pub suspects_few : (S U : Names) (M : Rows) (d : Delta) (added : Rows) (n : ℕ) → ((k : Row) → count_of (find_by S k M) ≤ n) → count_of (suspects S U M d added) ≤ count_of d.remove + n * count_of added
unfolding suspects
suspects_few S U M d added n h =
    let p = project_len U d.remove in
    let f = found_few S M (set.items added) n h in
    let u = union_len (project U d.remove) (found_each S M (set.items added)) in
    omega arith

-- what holds of the sets by which a source may be asked
pub gives_with : (K : List Names) (S : Names) (T : List Edge) (M : Rows) (n : ℕ) → GivesAtMost n K M → Contains K S → AllEdges (λ e. Contains K e.left) T → GivesAtMost n (S ∷ left_sides T) M
gives_with K S T M n h asked all = λ C k i. elim (contains_cases C S (left_sides T) i) [
  | inl is ↦ h C k (subst (Contains K) (sym is) asked)
  | inr j ↦ gives_by_edges K T M n h all C k j
]

-- so few right rows are new
pub new_right : (K : List Names) (G : List Edge) (N rows : Rows) (change : Delta) (n : ℕ) → length G ≤ 64 → GivesAtMost n K N → AllEdges (λ e. Contains K e.left) G → change ≡ merge_delta G N rows
    → count_of change.add ≤ 64 * (count_of rows * n) + count_of rows
new_right K G N rows change n edges h all is =
    let s = ap (λ (x : Delta). count_of x.add) is in
    let few = merge_adds_few G N rows n edges (gives_by_edges K G N n h all) in
    omega arith

-- ---- the whole edit, where a and b bound one question on the left and on the right

-- products with fewer factors are within d * (a * b), and that is within d * (a * b) * (a * b)
module _ (a b : ℕ) (some_a : 1 ≤ a) (some_b : 1 ≤ b) where
  pub one_a : a ≤ a * b
  one_a = let p : a * 1 ≤ a * b = mul-le a 1 a b (omega arith) some_b in omega arith

  one_b : b ≤ a * b
  one_b = let p : 1 * b ≤ a * b = mul-le 1 b a b some_a (omega arith) in omega arith

  one_both : 1 ≤ a * b
  one_both = let p = one_a in omega arith

  once : (d : ℕ) → d ≤ d * (a * b)
  once d = let p : d * 1 ≤ d * (a * b) = mul-le d 1 d (a * b) (omega arith) one_both in omega arith

  -- rows revised along at most 64 edges, where n is a or b
  merged : (n r e d old now : ℕ) → n ≤ a * b → r ≤ d → e ≤ 64 → now ≤ old + n * r * (e + 1) → now ≤ old + 65 * (d * (a * b))
  merged n r e d old now h few edges looks =
      let p : n * r ≤ a * b * d = mul-le n r (a * b) d h few in
      let q : n * r * (e + 1) ≤ a * b * d * 65 = mul-le (n * r) (e + 1) (a * b * d) 65 p (omega arith) in
      let s : 65 * (d * (a * b)) ≡ a * b * d * 65 = grind arith in
      omega arith

  pub right_looks : (r e d old now : ℕ) → r ≤ d → e ≤ 64 → now ≤ old + b * r * (e + 1) → now ≤ old + 65 * (d * (a * b))
  right_looks r e d old now few edges looks = merged b r e d old now one_b few edges looks

  pub left_looks : (r e d old now : ℕ) → r ≤ d → e ≤ 64 → now ≤ old + a * r * (e + 1) → now ≤ old + 65 * (d * (a * b))
  left_looks r e d old now few edges looks = merged a r e d old now one_a few edges looks

  -- so many new right rows, and left rows that agree with them
  pub new_few : (r g d : ℕ) → r ≤ d → g ≤ 64 * (r * b) + r → a * g ≤ 65 * (d * (a * b))
  new_few r g d few h =
      let p : r * b ≤ d * b = mul-le r b d b few (omega arith) in
      let q : d * 1 ≤ d * b = mul-le d 1 d b (omega arith) some_b in
      let k : a * g ≤ a * (65 * (d * b)) = mul-le a g a (65 * (d * b)) (omega arith) (omega arith) in
      let s : a * (65 * (d * b)) ≡ 65 * (d * (a * b)) = grind arith in
      omega arith

  pub suspect_looks : (r g d old now : ℕ) → r ≤ d → g ≤ 64 * (r * b) + r → now ≤ old + a * g → now ≤ old + 65 * (d * (a * b))
  suspect_looks r g d old now few h looks = let p = new_few r g d few h in omega arith

  -- so many rows are tested
  pub tested_few : (d removed added g l s m t : ℕ) → removed + added ≤ d → a * g ≤ 65 * (added * (a * b)) → l ≤ added → s ≤ removed + a * g → m ≤ 64 * (l * a) → t ≤ s + m → t ≤ 129 * (d * (a * b))
  tested_few d removed added g l s m t both near few suspect revised all =
      let p : l * a ≤ added * (a * b) = mul-le l a added (a * b) few one_a in
      let q = once removed in
      let k : (removed + added) * (a * b) ≤ d * (a * b) = mul-le (removed + added) (a * b) d (a * b) both (omega arith) in
      let e : (removed + added) * (a * b) ≡ removed * (a * b) + added * (a * b) = grind arith in
      omega arith

  pub test_looks : (d t old now : ℕ) → t ≤ 129 * (d * (a * b)) → now ≤ old + (a + 2 * b) * t → now ≤ old + 387 * (d * (a * b) * (a * b))
  test_looks d t old now few looks =
      let h = one_a in
      let k = one_b in
      let p : (a + 2 * b) * t ≤ 3 * (a * b) * (129 * (d * (a * b))) = mul-le (a + 2 * b) t (3 * (a * b)) (129 * (d * (a * b))) (omega arith) few in
      let s : 3 * (a * b) * (129 * (d * (a * b))) ≡ 387 * (d * (a * b) * (a * b)) = grind arith in
      omega arith

  square : (d : ℕ) → d * (a * b) ≤ d * (a * b) * (a * b)
  square d = once' (d * (a * b))
    where
      once' : (x : ℕ) → x ≤ x * (a * b)
      once' x = let p : x * 1 ≤ x * (a * b) = mul-le x 1 x (a * b) (omega arith) one_both in omega arith

  -- all of it
  in_all : (d old now : ℕ) → now ≤ old + 195 * (d * (a * b)) + 387 * (d * (a * b) * (a * b)) → now ≤ old + 582 * (d * (a * b) * (a * b))
  in_all d old now h = let p = square d in omega arith

  pub after_merges : (d old l1 : ℕ) → l1 ≤ old + 130 * (d * (a * b)) → l1 ≤ old + 582 * (d * (a * b) * (a * b))
  after_merges d old l1 h = in_all d old l1 (omega arith)

  pub after_suspects : (d old l1 l2 : ℕ) → l1 ≤ old + 130 * (d * (a * b)) → l2 ≤ l1 + 65 * (d * (a * b)) → l2 ≤ old + 582 * (d * (a * b) * (a * b))
  after_suspects d old l1 l2 h i = in_all d old l2 (omega arith)

  pub after_tests : (d old l1 l2 l3 : ℕ) → l1 ≤ old + 130 * (d * (a * b)) → l2 ≤ l1 + 65 * (d * (a * b)) → l3 ≤ l2 + 387 * (d * (a * b) * (a * b))
      → l3 ≤ old + 582 * (d * (a * b) * (a * b))
  after_tests d old l1 l2 l3 h i j = in_all d old l3 (omega arith)

-- within the work of the node
pub in_work : (a b d k old now : ℕ) → k ≤ 32768 → now ≤ old + k * (d * (a * b) * (a * b)) → now ≤ old + node_work d (2 * a * b)
in_work a b d k old now few h =
    let p : k * (d * (a * b) * (a * b)) ≤ 32768 * (d * (a * b) * (a * b)) = mul-le k (d * (a * b) * (a * b)) 32768 (d * (a * b) * (a * b)) few (omega arith) in
    let s : 8192 * d * (2 * a * b) * (2 * a * b) ≡ 32768 * (d * (a * b) * (a * b)) = grind arith in
    omega arith
