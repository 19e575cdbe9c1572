-- How many rows sets have, and how many looks are taken.
use Rattle.std.proofs.Common.{◌≡◌, ℕ, ◌+◌, ◌*◌, ◌<◌, ◌≤◌, length, map, List, [], ◌∷◌, ◌++◌, sym, ◌∙◌, subst, Bool, true, false, cond, arith, length-append, filter}
use Rattle.std.specs.FinMap as finmap
use Rattle.plain_values.proofs.Common.{mul-le-mul_left, length-map, row_cmp, Row}
use Rattle.plain_values.specs.SortedSet as set
use Rattle.lens_specs.specs.Common.{Names, Rows, image, minus, project, those, union, cut}
use Rattle.fd_laws.proofs.Common.{row_exact, row_total}

-- one question more, and so many for each of some rows
pub one_more : (n i len old a b : ℕ) → i < len → a ≤ old + n * i → b ≤ a + n → b ≤ old + n * len
one_more n i len old a b below before now =
    let some : n * (i + 1) ≤ n * len = mul-le-mul_left n (omega arith) in
    omega (arith, some, before, now)

pub next : (n i old a b : ℕ) → a ≤ old + n * i → b ≤ a + n → b ≤ old + n * (i + 1)
next n i old a b before now = omega (arith, before, now)

pub at_end : (n i len old a : ℕ) → i ≤ len → a ≤ old + n * i → a ≤ old + n * len
at_end n i len old a past before =
    let some : n * i ≤ n * len = mul-le-mul_left n past in
    omega (arith, some, before)

-- next and at_end of the number of rows that are found, which begins at 0
pub more_rows : (n i a b : ℕ) → a ≤ n * i → b ≤ a + n → b ≤ n * (i + 1)
more_rows n i a b before now = omega (arith, before, now)

pub all_rows : (n i len a : ℕ) → i ≤ len → a ≤ n * i → a ≤ n * len
all_rows n i len a past before =
    let some : n * i ≤ n * len = mul-le-mul_left n past in
    omega (arith, some, before)

-- two questions' worth
pub both_counted : (n r all add old a b : ℕ) → r ≤ all → a ≤ old + n * r → b ≤ a + n * add → b ≤ old + n * (all + add)
both_counted n r all add old a b some before now =
    let more : n * r ≤ n * all = mul-le-mul_left n some in
    omega (arith, more, before, now)

-- ---- how many rows there are

items_len : (M : Rows) → length (set.items M) ≡ finmap.len M
items_len M = length-map (finmap.entries M) (λ e. e.0) ∙ sym (finmap.len-entries M)

one_or_none : (b : Bool) (n m : ℕ) → n ≤ m → cond b n (n + 1) ≤ m + 1
one_or_none true n m h = omega arith
one_or_none false n m h = omega arith

pub listed_len : (rows : List Row) → length (set.items (set.from_list {R = row_cmp} rows)) ≤ length rows
unfolding set.empty set.insert set.contains
listed_len [] = let none : length (set.items (set.from_list {R = row_cmp} [])) ≡ 0 = items_len (set.from_list {R = row_cmp} []) ∙ finmap.len-empty row_cmp (Unit {0}) in omega (arith, none)
listed_len (r ∷ rows) =
    let rest : finmap.len (set.from_list {R = row_cmp} rows) ≤ length rows = subst (λ n. n ≤ length rows) (items_len (set.from_list rows)) (listed_len rows) in
    let is = items_len (set.insert (set.from_list rows) r) ∙ finmap.len-insert row_total (set.from_list rows) r tt in
    let all : length (set.items (set.from_list {R = row_cmp} (r ∷ rows))) ≤ length rows + 1 =
    subst (λ n. n ≤ length rows + 1) (sym is) (one_or_none _ (finmap.len (set.from_list {R = row_cmp} rows)) (length rows) rest) in
    omega (arith, all)

pub project_len : (C : Names) (M : Rows) → length (set.items (project C M)) ≤ length (set.items M)
unfolding project image
project_len C M = subst (λ n. length (set.items (set.from_list {R = row_cmp} (map (cut C) (set.items M)))) ≤ n) (length-map (set.items M) (cut C)) (listed_len (map (cut C) (set.items M)))

pub union_len : (M N : Rows) → length (set.items (union M N)) ≤ length (set.items M) + length (set.items N)
unfolding set.union
union_len M N = subst (λ n. length (set.items (set.from_list {R = row_cmp} (set.items M ++ set.items N))) ≤ n) (length-append (set.items M) (set.items N)) (listed_len (set.items M ++ set.items N))

filter_len : (p : Row → Bool) (rows : List Row) → length (filter p rows) ≤ length rows
filter_len p [] = omega arith
filter_len p (r ∷ rows) = kept (p r) (filter_len p rows)
  where
    kept : (b : Bool) → length (filter p rows) ≤ length rows → length (cond b (r ∷ filter p rows) (filter p rows)) ≤ length (r ∷ rows)
    kept true h = omega arith
    kept false h = omega arith

pub those_len : (p : Row → Bool) (M : Rows) → length (set.items (those p M)) ≤ length (set.items M)
those_len p M =
    subst (λ s. length (set.items s) ≤ length (set.items M)) (set.from_list-filter row_total row_exact p M)
    (let some = listed_len (filter p (set.items M)) in let all = filter_len p (set.items M) in omega (arith, some, all))

pub minus_len : (M N : Rows) → length (set.items (minus M N)) ≤ length (set.items M)
unfolding set.difference
minus_len M N = those_len _ M
