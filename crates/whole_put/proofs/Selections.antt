-- A selection and its put, row by row.
use Rattle.std.proofs.Common.{◌≡◌, ◌∙◌, ℕ, suc, Bool, true, false, List, [], ◌∷◌, length, map, arith, ap, sym, refl, not, ◌==◌, ◌&&◌, ◌||◌}
use Rattle.plain_values.proofs.Common.{nat_tests, row_cmp_total, row_cmp-IsAntisymmetric, Row}
use Rattle.plain_values.specs.SortedSet as set
use Rattle.lens_specs.specs.Common.{Columns, Fits, Edge, MeetsTree, Rows, has, those, image, merge, revise, revise_row, select_get, select_put, select_merged}
use Rattle.fd_laws.proofs.Common.{IsTree, has-those}
use Rattle.lens_laws.proofs.Common.{Shape}
use Rattle.lens_laws.proofs.Select.{select_lawful}

-- ---- rows that pass a test

-- where each row passes, the result is the whole relation
pub all_kept : (p : Row → Bool) (M : Rows) → ((q : Row) → has M q ≡ true → p q ≡ true) → those p M ≡ M
all_kept p M all = set.same_set row_cmp_total row_cmp-IsAntisymmetric (those p M) M (λ q. has-those p M q ∙ by_test (has M q) (p q) (all q))
  where
    by_test : (m b : Bool) → (m ≡ true → b ≡ true) → (m && b) ≡ m
    by_test true b h = h refl
    by_test false b h = refl

map_same : (rows : List Row) (L : Rows) → map (λ m. revise_row [] m L) rows ≡ rows
unfolding revise_row
map_same [] L = refl
map_same (r ∷ rows) L = ap (λ l. r ∷ l) (map_same rows L)

-- without edges nothing is revised
pub revise_none : (M L : Rows) → revise [] M L ≡ M
unfolding revise image
revise_none M L = ap set.from_list (map_same (set.items M) L) ∙ set.from_list-items row_cmp_total row_cmp-IsAntisymmetric M

pub no_edges : (es : List Edge) → (length es == 0) ≡ true → es ≡ []
no_edges [] e = refl
no_edges (e ∷ es) h = absurd (not_none (length es) h)
  where
    not_none : (n : ℕ) → (suc n == 0) ≡ true → ⊥
    not_none n h = grind (arith, nat_tests)

-- ---- a put

only : (r p n : Bool) → ((r || n) && not (((r || n) && p) && not n)) ≡ ((r && not p) || n)
only true true true = refl
only true true false = refl
only true false true = refl
only true false false = refl
only false true true = refl
only false true false = refl
only false false true = refl
only false false false = refl

in_union : (M N : Rows) (q : Row) → has (set.union M N) q ≡ (has M q || has N q)
in_union M N q = set.contains-union row_cmp_total M N q

less_extra : (P : Row → Bool) (N A : Rows) (q : Row) → has (set.difference A (set.difference (those P A) N)) q ≡ (has A q && not ((has A q && P q) && not (has N q)))
less_extra P N A q =
    set.contains-difference row_cmp_total A (set.difference (those P A) N) q
    ∙ ap (λ b. has A q && not b) (set.contains-difference row_cmp_total (those P A) N q ∙ ap (λ b. b && not (has N q)) (has-those P A q))

-- the source after a put: the rows that are hidden still, and the view
abbrev pub put_rows : List Edge → (Row → Bool) → Rows → Rows → Rows
put_rows T P N M = set.union (those (λ r. not (P r)) (revise T (those (λ r. not (P r)) M) N)) N

in_put : (P : Row → Bool) (R N : Rows) (q : Row) → has (set.union (those (λ r. not (P r)) R) N) q ≡ ((has R q && not (P q)) || has N q)
in_put P R N q = in_union (those (λ r. not (P r)) R) N q ∙ ap (λ b. b || has N q) (has-those (λ r. not (P r)) R q)

pub put_is : (T : List Edge) (P : Row → Bool) (N M : Rows) → put_rows T P N M ≡ select_put T P N M
unfolding select_put select_merged merge
put_is T P N M =
    let R = revise T (those (λ r. not (P r)) M) N in
    let A = set.union R N in
    set.same_set row_cmp_total row_cmp-IsAntisymmetric _ _ (λ q.
    in_put P R N q ∙ sym (only (has R q) (P q) (has N q))
    ∙ sym (ap (λ b. b && not ((b && P q) && not (has N q))) (in_union R N q))
    ∙ sym (less_extra P N A q))

-- where each row of the view passes, the view is read again
pub shown_after : (T : List Edge) (P : Row → Bool) (N M : Rows) → ((q : Row) → has N q ≡ true → P q ≡ true) → select_get P (put_rows T P N M) ≡ N
unfolding select_get
shown_after T P N M all =
    let R = revise T (those (λ r. not (P r)) M) N in
    set.same_set row_cmp_total row_cmp-IsAntisymmetric _ _ (λ q.
    has-those P (put_rows T P N M) q ∙ ap (λ b. b && P q) (in_put P R N q) ∙ by_test (has R q) (P q) (has N q) (all q))
  where
    by_test : (r p n : Bool) → (n ≡ true → p ≡ true) → (((r && not p) || n) && p) ≡ n
    by_test true true true h = refl
    by_test true true false h = refl
    by_test true false true h = h refl
    by_test true false false h = refl
    by_test false true true h = refl
    by_test false true false h = refl
    by_test false false true h = h refl
    by_test false false false h = refl

-- where the source meets the tree, to put back what is read changes nothing
pub put_back : (T : List Edge) (P : Row → Bool) (U : Columns) (M : Rows) → IsTree T → MeetsTree M T → ((q : Row) → has M q ≡ true → Fits U q) → put_rows T P (select_get P M) M ≡ M
put_back T P U M tree meets fits =
    let s : Shape = record { columns = U; holds = λ r. true; tree = T } in
    put_is T P (select_get P M) M ∙ (select_lawful s P tree (λ a b h k r i. refl)).get_put M (record { columns = fits; holds = λ r h. refl; meets = meets })
