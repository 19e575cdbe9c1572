-- How many rows an edit without a column becomes, and how many looks it takes.
use Rattle.std.proofs.Common.{◌≡◌, ℕ, ◌+◌, ◌*◌, ◌<◌, ◌≤◌, List, ap, length, map, take, arith}
use Rattle.plain_values.proofs.Common.{length-map, length-take, mul-le, Row}
use Rattle.plain_values.specs.SortedSet as set
use Rattle.lens_specs.specs.Common.{Delta, Rows, image}
use Rattle.lens_laws.proofs.Common.{count_of, node_work, rows_down, rows_of}
use Rattle.signed_delta.proofs.Counts.{at_end, listed_len}

-- ---- one node

-- so many looks for each row
pub looks_are : (r n old new : ℕ) → 1 ≤ n → new ≤ old + n * r → new ≤ old + node_work r n
looks_are r n old new some h =
    let p : n * r * 1 ≤ n * r * n = mul-le (n * r) 1 (n * r) n (omega arith) some in
    let e : 8192 * r * n * n ≡ 8192 * (n * r * n) = grind arith in
    omega arith

image_few : (f : Row → Row) (M made : Rows) → made ≡ image f M → count_of made ≤ count_of M
unfolding image
image_few f M made is =
    let h = listed_len (map f (set.items M)) in
    let e = length-map (set.items M) f in
    let s = ap count_of is in
    omega arith

-- each row becomes one
pub few_are : (d x : Delta) (f : Row → Row) (remove add : Rows) (n : ℕ) → x ≡ record { remove = remove; add = add } → remove ≡ image f d.remove → add ≡ image f d.add → 1 ≤ n
    → rows_of x ≤ rows_down (rows_of d) n
few_are d x f remove add n is removes adds some =
    let s = ap rows_of is in
    let a = image_few f d.remove remove removes in
    let b = image_few f d.add add adds in
    let q : rows_of d * 1 ≤ rows_of d * n = mul-le (rows_of d) 1 (rows_of d) n (omega arith) some in
    let e : 512 * rows_of d * n ≡ 512 * (rows_of d * n) = grind arith in
    omega arith

-- ---- the two lists, row by row

-- a row that is there is looked for
pub one_look : (n before after i : ℕ) (rows : List Row) → i < length rows → after ≤ before + n → after + n * length (take i rows) ≤ before + n * length (take (i + 1) rows)
one_look n before after i rows below h =
    let t = length-take i rows in
    let u = length-take (i + 1) rows in
    let s : length (take (i + 1) rows) ≡ length (take i rows) + 1 = omega arith in
    let e : n * length (take (i + 1) rows) ≡ n * (length (take i rows) + 1) = ap (λ x. n * x) s in
    omega (arith, h, e)

-- the looks for the first rows of both lists are among those for all
pub few_looks : (n i j : ℕ) (d : Delta) (removed added : List Row) (before after : ℕ) → removed ≡ set.items d.remove → added ≡ set.items d.add
    → after ≤ before + n * (length (take i removed) + length (take j added)) → after ≤ before + n * rows_of d
few_looks n i j d removed added before after all_removed all_added h =
    let r = ap length all_removed in
    let a = ap length all_added in
    let t = length-take i removed in
    let u = length-take j added in
    at_end n (length (take i removed) + length (take j added)) (rows_of d) before after (omega arith) h
