-- Maps from names: the part at some of the names, and two maps put together.
use Rattle.std.specs.Prelude.{◌≡◌, ℕ, Bool, true, false, not, List, [], ◌∷◌, ◌++◌, filter, refl, Option, Some, None}
use Rattle.std.proofs.Common.{ap, sym, ◌∙◌, cond}
use Rattle.std.specs.Ordering.{eq_by_cmp, is_eq}
use Rattle.std.specs.Cmp.Lexicographic.{nat_list_cmp_total}
use Rattle.std.specs.FinMap as map
use Rattle.std.specs.FinMap.{find, slice_cmp-IsAntisymmetric, nat_cmp-IsAntisymmetric}
use Rattle.std.specs.declared.cmp.Ordering.{Ordering}
use Rattle.std.specs.declared.cmp.Ordering.TheVariants.{Less, Equal, Greater}
use Rattle.plain_values.specs.Order.{bytes_cmp}
use Rattle.plain_values.specs.Names.{Names}
use Rattle.plain_values.specs.SortedSet as set

-- the part of the map at the names of C
abbrev pub restrict : {X : Type 0} → Names → map.FinMap bytes_cmp X → map.FinMap bytes_cmp X
restrict C m = map.retain_keys m (set.contains C)

-- the part of the map at the other names
abbrev pub exclude : {X : Type 0} → Names → map.FinMap bytes_cmp X → map.FinMap bytes_cmp X
exclude C m = map.retain_keys m (λ c. not (set.contains C c))

-- the entries of both maps, with the first's value where both have the name
abbrev pub override : {X : Type 0} → map.FinMap bytes_cmp X → map.FinMap bytes_cmp X → map.FinMap bytes_cmp X
override m n = map.from_entries (map.entries m ++ map.entries n)

is_equal : (o : Ordering) → is_eq o ≡ true → o ≡ Equal
is_equal Less e = cc
is_equal Equal e = refl
is_equal Greater e = cc

tied : (q x : List ℕ) → eq_by_cmp bytes_cmp q x ≡ true → q ≡ x
tied q x e = slice_cmp-IsAntisymmetric nat_cmp-IsAntisymmetric q x (is_equal (bytes_cmp q x) e)

module _ {X : Type 0} (p : List ℕ → Bool) where
  nothing : (b : Bool) → ◌≡◌ {A = Option X} None (cond b None None)
  nothing true = refl
  nothing false = refl

  step : (q x : List ℕ) (v : X) (rest : Option X) (b t : Bool) → (t ≡ true → p q ≡ b)
      → cond b (cond t (Some v) (cond (p q) rest None)) (cond (p q) rest None) ≡ cond (p q) (cond t (Some v) rest) None
  step q x v rest true true h = rw (h refl) refl
  step q x v rest false true h = rw (h refl) refl
  step q x v rest true false h = refl
  step q x v rest false false h = refl

  moved : (q : List ℕ) (e : List ℕ × X) (es : List (List ℕ × X)) (b : Bool)
      → find bytes_cmp q (cond b (e ∷ filter (λ f. p f.0) es) (filter (λ f. p f.0) es))
      ≡ cond b (cond (eq_by_cmp bytes_cmp q e.0) (Some e.1) (find bytes_cmp q (filter (λ f. p f.0) es))) (find bytes_cmp q (filter (λ f. p f.0) es))
  moved q e es true = refl
  moved q e es false = refl

  find-filter : (q : List ℕ) (es : List (List ℕ × X)) → find bytes_cmp q (filter (λ f. p f.0) es) ≡ cond (p q) (find bytes_cmp q es) None
  find-filter q [] = nothing (p q)
  find-filter q (e ∷ es) =
      moved q e es (p e.0)
      ∙ ap (λ r. cond (p e.0) (cond (eq_by_cmp bytes_cmp q e.0) (Some e.1) r) r) (find-filter q es)
      ∙ step q e.0 e.1 (find bytes_cmp q es) (p e.0) (eq_by_cmp bytes_cmp q e.0) (λ t. ap p (tied q e.0 t))

  -- the entries that pass are those of the part
  pub from_entries-filter : (m : map.FinMap bytes_cmp X) → map.from_entries {R = bytes_cmp} (filter (λ f. p f.0) (map.entries m)) ≡ map.retain_keys m p
  from_entries-filter m = map.same_map nat_list_cmp_total (slice_cmp-IsAntisymmetric nat_cmp-IsAntisymmetric) _ _ (λ q.
      map.get-from_entries nat_list_cmp_total _ q ∙ find-filter q (map.entries m)
      ∙ ap (λ r. cond (p q) r None) (sym (map.get-entries m q))
      ∙ sym (map.get-retain_keys m p q (λ x tie. ap p (sym (slice_cmp-IsAntisymmetric nat_cmp-IsAntisymmetric q x tie)))))
