-- How many rows sets of rows have.
use Rattle.std.proofs.Common.{◌≡◌, ℕ, suc, ◌+◌, ◌*◌, ◌≤◌, Bool, true, false, cond, List, [], ◌∷◌, length, map, sym, ap, ◌∙◌, subst, inl, inr, arith}
use Rattle.plain_values.proofs.Common.{cases_Bool, length-append, length-map, mul-le, filter, flat_map, row_cmp, Row}
use Rattle.std.specs.FinMap as finmap
use Rattle.plain_values.specs.SortedSet as set
use Rattle.fd_laws.proofs.Common.{same_rel, in_those, from_those, row_total, row_exact}
use Rattle.lens_specs.specs.Common.{Names, Rows, has, those, image, project, cut}
use Rattle.lens_laws.specs.Finds.{matched}
use Rattle.lens_laws.specs.Work.{count_of}

count_len : (M : Rows) → finmap.len M ≡ count_of M
count_len M = finmap.len-entries M ∙ sym (length-map (finmap.entries M) (λ e. e.0))

count-insert : (M : Rows) (r : Row) → count_of (set.insert M r) ≤ suc (count_of M)
unfolding set.insert
count-insert M r =
    let e : count_of (set.insert M r) ≡ cond (finmap.contains_key M r) (finmap.len M) (finmap.len M + 1) = sym (count_len (set.insert M r)) ∙ finmap.len-insert row_total M r tt in
    let f = count_len M in
    elim (cases_Bool (finmap.contains_key M r)) [
      | inl t ↦ let g = e ∙ ap (λ b. cond b (finmap.len M) (finmap.len M + 1)) t in omega arith
      | inr t ↦ let g = e ∙ ap (λ b. cond b (finmap.len M) (finmap.len M + 1)) t in omega arith
    ]

pub count-none : count_of set.empty ≡ 0
unfolding set.empty
count-none = sym (count_len set.empty) ∙ finmap.len-empty row_cmp (Unit {0})

pub count-from_list : (rs : List Row) → count_of (set.from_list rs) ≤ length rs
count-from_list [] = let e = count-none in omega arith
count-from_list (r ∷ rs) = let h = count-from_list rs in let i = count-insert (set.from_list rs) r in omega arith

length-filter : (p : Row → Bool) (rs : List Row) → length (filter p rs) ≤ length rs
length-filter p [] = omega arith
length-filter p (r ∷ rs) =
    let h = length-filter p rs in
    elim (p r) as (λ b. length (cond b (r ∷ filter p rs) (filter p rs)) ≤ length (r ∷ rs)) [ true ↦ omega arith | false ↦ omega arith ]

pub count-those : (p : Row → Bool) (M : Rows) → count_of (those p M) ≤ count_of M
count-those p M =
    let e : count_of (those p M) ≡ count_of (set.from_list (filter p (set.items M))) = ap count_of (sym (set.from_list-filter row_total row_exact p M)) in
    let h = count-from_list (filter p (set.items M)) in
    let i = length-filter p (set.items M) in
    omega arith

-- a relation within another has no more rows
pub count-within : (M N : Rows) → ((r : Row) → has M r ≡ true → has N r ≡ true) → count_of M ≤ count_of N
count-within M N sub = subst (λ Z. count_of Z ≤ count_of N)
    (same_rel (those (has M) N) M (λ r i. (from_those (has M) N r i).1) (λ r i. in_those (has M) N r (sub r i) i))
    (count-those (has M) N)

pub count-image : (f : Row → Row) (M : Rows) → count_of (image f M) ≤ count_of M
unfolding image
count-image f M = let h = count-from_list (map f (set.items M)) in let e = length-map (set.items M) f in omega arith

pub count-project : (D : Names) (M : Rows) → count_of (project D M) ≤ count_of M
unfolding project image
count-project D M = let h = count-from_list (map (cut D) (set.items M)) in let e = length-map (set.items M) (cut D) in omega arith

length-flat_map : (f : Row → List Row) (n : ℕ) (rs : List Row) → ((r : Row) → length (f r) ≤ n) → length (flat_map f rs) ≤ length rs * n
length-flat_map f n [] h = omega arith
length-flat_map f n (r ∷ rs) h =
    let i = length-flat_map f n rs h in
    let j = h r in
    let e = length-append (f r) (flat_map f rs) in
    let step : suc (length rs) * n ≡ n + length rs * n = grind arith in
    omega arith

pub count-matched : (f : Row → Row → Row) (look : Row → Rows) (M : Rows) (a b : ℕ) → count_of M ≤ a → ((r : Row) → count_of (look r) ≤ b) → count_of (matched f look M) ≤ a * b
unfolding matched
count-matched f look M a b ha hb =
    let each : (r : Row) → length (map (f r) (set.items (look r))) ≤ b = λ r. let e = length-map (set.items (look r)) (f r) in let h = hb r in omega arith in
    let h = count-from_list (flat_map (λ r. map (f r) (set.items (look r))) (set.items M)) in
    let i = length-flat_map (λ r. map (f r) (set.items (look r))) b (set.items M) each in
    let j = mul-le (count_of M) b a b ha (omega arith) in
    omega arith
