-- How many of the names pass a test, with one name more.
use Rattle.std.proofs.Common.{◌≡◌, ◌∙◌, ℕ, suc, Bool, true, false, List, [], ◌∷◌, ap, sym, refl, cond, Some, None, if◌then◌else◌}
use Rattle.plain_values.proofs.Common.{is_eq, Ordering, Less, Equal, Greater, nat_list_cmp_total, bytes_cmp}
use Rattle.std.specs.FinMap as finmap
use Rattle.lens_specs.specs.Common.{Name, Lens}
use Rattle.catalog_specs.specs.Judging.{count_named}
use Rattle.catalog_specs.specs.Catalogue.{Catalogue}

counted : (Name → Lens → Bool) → Name → Lens → ℕ → ℕ
counted passes name lens n = if passes name lens then suc n else n

swap_counts : (a b : Bool) (n : ℕ) → (if a then suc (if b then suc n else n) else (if b then suc n else n)) ≡ (if b then suc (if a then suc n else n) else (if a then suc n else n))
swap_counts true true n = refl
swap_counts true false n = refl
swap_counts false true n = refl
swap_counts false false n = refl

count_by_order : (passes : Name → Lens → Bool) (k : Name) (lens : Lens) (e : Name × Lens) (es : List (Name × Lens)) (o : Ordering) → bytes_cmp k e.0 ≡ o
    → finmap.find bytes_cmp k (e ∷ es) ≡ None
    → (finmap.find bytes_cmp k es ≡ None → count_named passes (finmap.put bytes_cmp k lens es) ≡ counted passes k lens (count_named passes es))
    → count_named passes (finmap.put bytes_cmp k lens (e ∷ es)) ≡ counted passes k lens (count_named passes (e ∷ es))
unfolding counted
count_by_order passes k lens e es Less is none more = rw is refl
count_by_order passes k lens e es Equal is none more =
    let found : Some e.1 ≡ None = ap (λ o. cond (is_eq o) (Some e.1) (finmap.find bytes_cmp k es)) (sym is) ∙ none in
    cc
count_by_order passes k lens e es Greater is none more =
    let rest : finmap.find bytes_cmp k es ≡ None = ap (λ o. cond (is_eq o) (Some e.1) (finmap.find bytes_cmp k es)) (sym is) ∙ none in
    rw is (ap (λ n. if passes e.0 e.1 then suc n else n) (more rest) ∙ swap_counts (passes e.0 e.1) (passes k lens) (count_named passes es))

count_put : (passes : Name → Lens → Bool) (k : Name) (lens : Lens) (es : List (Name × Lens)) → finmap.find bytes_cmp k es ≡ None
    → count_named passes (finmap.put bytes_cmp k lens es) ≡ counted passes k lens (count_named passes es)
unfolding counted
count_put passes k lens [] none = refl
count_put passes k lens (e ∷ es) none = count_by_order passes k lens e es (bytes_cmp k e.0) refl none (λ n. count_put passes k lens es n)

-- a new name counts where it passes with its lens
pub count_more : (passes : Name → Lens → Bool) (known : Catalogue) (k : Name) (lens : Lens) → finmap.get known k ≡ None
    → count_named passes (finmap.entries (finmap.insert known k lens)) ≡ (if passes k lens then suc (count_named passes (finmap.entries known)) else count_named passes (finmap.entries known))
unfolding counted
count_more passes known k lens none =
    ap (count_named passes) (finmap.entries-insert nat_list_cmp_total known k lens)
    ∙ count_put passes k lens (finmap.entries known) (sym (finmap.get-entries known k) ∙ none)
