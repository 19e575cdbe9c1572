-- A projection and its put.
use Rattle.std.proofs.Common.{◌≡◌, List, [], ◌∷◌, map, refl, sym, ap, ◌∙◌, Bool, true, false, cond, Option, Some, None, inl}
use Rattle.std.specs.FinMap as finmap
use Rattle.plain_values.proofs.Common.{nat_list_cmp_total, eq_by_cmp, true≢false, false_from_ne_true, bytes_cmp, override, Row, absurd_false}
use Rattle.plain_values.specs.SortedSet as set
use Rattle.plain_values.specs.declared.value.Value.{Value}
use Rattle.lens_specs.specs.Common.{Columns, Fits, fits_at, names, without_column, Edge, Meets, edge, Name, Names, one, drop_get, drop_put, Relation, Rows, has, image, project, along, revise, revise_row, at, with_at}
use Rattle.lens_specs.specs.Relation.{project_relation}
use Rattle.lens_laws.proofs.Common.{CanDrop, IsIn, Shape, drop_shape}
use Rattle.fd_laws.proofs.Common.{IsTree, from_rest, one_is, one_itself, from_image, same_rel, agree_from, same_row, in_image, at-with_at, to_tree_without}
use Rattle.lens_laws.proofs.Drop.{drop_lawful}
use Rattle.row_sets.proofs.Natural.{first_of, get-both}
use Rattle.whole_put.proofs.Cuts.{other_columns}

-- the relation without the column is the view
pub dropped : (A : Name) (source : Relation) (all out kept : Names) → all ≡ names source.columns → out ≡ one A → kept ≡ set.difference all out
    → project_relation kept source ≡ record { columns = without_column source.columns A; rows = drop_get (names source.columns) A source.rows }
unfolding drop_get
dropped A source all out kept is_all is_out is =
    let rest : kept ≡ set.difference (names source.columns) (one A) = is ∙ (λ i. set.difference (is_all i) (is_out i)) in
    ap (λ C. project_relation C source) rest ∙ (λ i. record { columns = other_columns source.columns A i; rows = project (set.difference (names source.columns) (one A)) source.rows })

-- ---- rows over a default

chosen : (b : Bool) (v : Value) (o : Option Value) → first_of (cond b (Some v) None) o ≡ cond b (Some v) o
chosen true v None = refl
chosen true v (Some w) = refl
chosen false v None = refl
chosen false v (Some w) = refl

-- a row with the default pasted in has its value in the column
default_is : (A : Name) (a : Value) (default n : Row) → default ≡ finmap.from_entries ((A, a) ∷ []) → override default n ≡ with_at n A (Some a)
default_is A a default n is = same_row _ _ (λ c.
    get-both default n c
    ∙ ap (λ r. first_of (at r c) (at n c)) is
    ∙ ap (λ o. first_of o (at n c)) (finmap.get-from_entries nat_list_cmp_total ((A, a) ∷ []) c)
    ∙ chosen (eq_by_cmp bytes_cmp c A) a (at n c)
    ∙ sym (at-with_at n A (Some a) c))

-- a row with the default, moved along the edge by M
abbrev filled_in : Edge → Row → Rows → Row → Row
filled_in e default M row = along e (override default row) M

-- the rows that are filled in are those of the put
filled_are : (A : Name) (X : Names) (a : Value) (default : Row) (N M : Rows) → default ≡ finmap.from_entries ((A, a) ∷ [])
    → image (filled_in (edge X (one A)) default M) N ≡ drop_put A X a N M
unfolding drop_put revise revise_row
filled_are A X a default N M is =
    let e = edge X (one A) in
    let f = λ (n : Row). with_at n A (Some a) in
    let one_step = λ (n : Row). ap (λ m. along e m M) (default_is A a default n is) in
    same_rel _ _
    (λ r i. let w = from_image (filled_in e default M) N r i in
    ap (has _) (w.2 ∙ one_step w.0) ∙ in_image (λ m. revise_row (e ∷ []) m M) (image f N) (f w.0) (in_image f N w.0 w.1))
    (λ r i. let w = from_image (λ m. revise_row (e ∷ []) m M) (image f N) r i in
    let v = from_image f N w.0 w.1 in
    ap (has _) (w.2 ∙ ap (λ m. along e m M) v.2 ∙ sym (one_step v.0)) ∙ in_image (filled_in e default M) N v.0 v.1)

map_twice : (f g : Row → Row) (rows : List Row) → map f (map g rows) ≡ map (λ r. f (g r)) rows
map_twice f g [] = refl
map_twice f g (r ∷ rows) = ap (λ rest. f (g r) ∷ rest) (map_twice f g rows)

-- filled_are, from the values that the body computes in turn
pub made : (A : Name) (X : Names) (a : Value) (default : Row) (e : Edge) (N M : Rows) (filled moved : List Row) (rows : Rows) → default ≡ finmap.from_entries ((A, a) ∷ []) → e ≡ edge X (one A)
    → filled ≡ map (override default) (set.items N) → moved ≡ map (λ m. along e m M) filled → rows ≡ set.from_list moved → rows ≡ drop_put A X a N M
unfolding image
made A X a default e N M filled moved rows is_default is_edge is_filled is_moved is =
    is ∙ ap set.from_list (is_moved ∙ ap (map (λ m. along e m M)) is_filled ∙ map_twice (λ m. along e m M) (override default) (set.items N))
    ∙ ap (λ k. image (filled_in k default M) N) is_edge
    ∙ filled_are A X a default N M is_default

-- ---- the laws

module _ (U : Columns) (A : Name) (X : Names) (a : Value) (N M : Rows) (column : fits_at (Some a) (finmap.get U A) ≡ true) (x_out : set.contains X A ≡ false)
    (fit : (r : Row) → has M r ≡ true → Fits U r) (source_decides : Meets M X (one A)) (view_fit : (r : Row) → has N r ≡ true → Fits (without_column U A) r) where
  not_one : (c : Name) → set.contains X c ≡ true → set.contains (one A) c ≡ false
  not_one c i = false_from_ne_true _ (λ t. absurd_false _ i (ap (set.contains X) (one_is A c t) ∙ x_out))

  abbrev s : Shape
  s = record { columns = U; holds = λ _. true; tree = edge X (one A) ∷ [] }

  tree : IsTree s.tree
  tree = (not_one, tt, tt)

  can : CanDrop s A X a (λ _. true) (λ _. true)
  can = record {
    column = column;
    from = edge X (one A);
    among = inl refl;
    left = refl;
    right = one_itself A;
    lefts = (x_out, tt);
    split = λ r. refl;
    ignores = λ x y h. refl;
    default = refl;
  }

  of_source : IsIn M s
  of_source = record { columns = fit; holds = λ r i. refl; meets = (source_decides, tt) }

  of_view : IsIn N (drop_shape s A (λ _. true))
  of_view = record {
    columns = view_fit;
    holds = λ r i. refl;
    meets = to_tree_without (one A) N s.tree (
      λ x y ix iy g. agree_from (set.difference (one A) (one A)) x y (λ c i. let w = from_rest (one A) (one A) c i in absurd (true≢false (sym w.0 ∙ w.1))),
      tt,
    );
  }

  of_new : IsIn (drop_put A X a N M) s
  of_new = (drop_lawful s A X a (λ _. true) (λ _. true) tree can).put_sort N M of_source of_view

  pub fits : (r : Row) → has (drop_put A X a N M) r ≡ true → Fits U r
  fits = of_new.columns

  pub put_get : drop_get (names U) A (drop_put A X a N M) ≡ N
  put_get = (drop_lawful s A X a (λ _. true) (λ _. true) tree can).put_get N M of_source of_view

  pub get_put : N ≡ drop_get (names U) A M → drop_put A X a N M ≡ M
  get_put same = ap (λ K. drop_put A X a K M) same ∙ (drop_lawful s A X a (λ _. true) (λ _. true) tree can).get_put M of_source
