-- The laws of rename.
use Rattle.std.proofs.Common.{◌≡◌, true, false, cond, List, [], ◌∷◌, Option, Some, None, sym, ap, ◌∙◌, subst, inl, inr, arith}
use Rattle.plain_values.proofs.Common.{cases_Bool, false_from_ne_true, eq_by_cmp, bytes_cmp, Row, absurd_false, fits_same, fits_cond, none_fits, same_bool}
use Rattle.std.specs.FinMap as finmap
use Rattle.plain_values.specs.SortedSet as set
use Rattle.plain_values.specs.declared.value.Kind.{Kind}
use Rattle.fd_laws.proofs.Common.{name_total, name_exact, name_itself, tied_name, same_rel, in_those, from_those, in_minus, from_minus, from_image, same_row, agree_at, agree_from, fits_none, no_kind, other_name, in_renamed, from_renamed, in_image, at-with_at, EdgesWithin}
use Rattle.lens_laws.proofs.Deltas.{applies_is}
use Rattle.lens_specs.specs.Common.{Delta, diff, new_view, Applies, Columns, Fits, names, Edge, MeetsTree, Name, Names, Within, Rows, has, minus, at, agree, renamed, renamed_names, renamed_row, renamed_columns, renamed_tree, rename_get, rename_put, with_kind}
use Rattle.lens_laws.specs.KeyedDeltas.{find_by}
use Rattle.plain_values.proofs.FitsLemmas.{fits_nowhere}
use Rattle.lens_laws.specs.Rename.{rename_delta, CanRename, rename_shape}
use Rattle.lens_laws.specs.Shapes.{Shape, IsIn, IsLawful}

-- ---- what is at a name
pub at-renamed : (A B : Name) (r : Row) (c : Name) → at (renamed_row A B r) c ≡ cond (eq_by_cmp bytes_cmp c B) (at r A) (cond (eq_by_cmp bytes_cmp c A) None (at r c))
unfolding renamed_row
at-renamed A B r c = at-with_at (finmap.remove r A) B (at r A) c ∙ ap (λ o. cond (eq_by_cmp bytes_cmp c B) (at r A) o) (finmap.get-remove name_total r A c)

get-with_kind : (U : Columns) (B : Name) (k : Option Kind) (c : Name) → finmap.get (with_kind U B k) c ≡ cond (eq_by_cmp bytes_cmp c B) k (finmap.get U c)
unfolding with_kind
get-with_kind U B None c = finmap.get-remove name_total U B c
get-with_kind U B (Some k) c = finmap.get-insert name_total U B k c

pub get-renamed : (A B : Name) (U : Columns) (c : Name) → finmap.get (renamed_columns A B U) c ≡ cond (eq_by_cmp bytes_cmp c B) (finmap.get U A) (cond (eq_by_cmp bytes_cmp c A) None (finmap.get U c))
unfolding renamed_columns
get-renamed A B U c = get-with_kind (finmap.remove U A) B (finmap.get U A) c ∙ ap (λ o. cond (eq_by_cmp bytes_cmp c B) (finmap.get U A) o) (finmap.get-remove name_total U A c)

-- renamed there and back, where the name is not A
pub renamed_twice : (A B c : Name) → eq_by_cmp bytes_cmp c A ≡ false → renamed A B (renamed B A c) ≡ c
renamed_twice A B c o = elim (cases_Bool (eq_by_cmp bytes_cmp c B)) [
  | inl t ↦ ap (λ x. renamed A B (cond x A c)) t ∙ ap (λ x. cond x B A) (name_itself A) ∙ sym (tied_name c B t)
  | inr f ↦ ap (λ x. renamed A B (cond x A c)) f ∙ ap (λ x. cond x B c) o
]

-- what a row turned back has at a name other than B is what the row has at the new name
pub at-back : (A B : Name) (r : Row) (c : Name) → eq_by_cmp bytes_cmp c B ≡ false → at (renamed_row B A r) c ≡ at r (renamed A B c)
at-back A B r c o = grind (arith, at-renamed)

-- turned there and back, where the row has no B
pub there_and_back : (A B : Name) (r : Row) → at r B ≡ None → renamed_row B A (renamed_row A B r) ≡ r
there_and_back A B r none = same_row _ r (λ c. at-renamed B A (renamed_row A B r) c ∙ elim (cases_Bool (eq_by_cmp bytes_cmp c A)) [
  | inl t ↦
      ap (λ b. cond b (at (renamed_row A B r) B) (cond (eq_by_cmp bytes_cmp c B) None (at (renamed_row A B r) c))) t
      ∙ at-renamed A B r B ∙ ap (λ b. cond b (at r A) (cond (eq_by_cmp bytes_cmp B A) None (at r B))) (name_itself B)
      ∙ ap (at r) (sym (tied_name c A t))
  | inr f ↦
      ap (λ b. cond b (at (renamed_row A B r) B) (cond (eq_by_cmp bytes_cmp c B) None (at (renamed_row A B r) c))) f
      ∙ elim (cases_Bool (eq_by_cmp bytes_cmp c B)) [
        | inl t ↦ ap (λ b. cond b None (at (renamed_row A B r) c)) t ∙ sym none ∙ ap (at r) (sym (tied_name c B t))
        | inr g ↦
            ap (λ b. cond b None (at (renamed_row A B r) c)) g ∙ at-renamed A B r c
            ∙ ap (λ b. cond b (at r A) (cond (eq_by_cmp bytes_cmp c A) None (at r c))) g
            ∙ ap (λ b. cond b None (at r c)) f
      ]
])

pub fits_renamed : (A B : Name) (U : Columns) (r : Row) → Fits U r → Fits (renamed_columns A B U) (renamed_row A B r)
fits_renamed A B U r h c = grind (arith, fits_same, at-renamed, get-renamed, fits_cond)

module _ (s : Shape) (A B : Name) (can : CanRename s A B) where
  abbrev U : Names
  U = names s.columns

  abbrev view : Shape
  view = rename_shape s A B

  apart_names : eq_by_cmp bytes_cmp A B ≡ false
  apart_names = other_name A B U can.column can.free

  not_new : (c : Name) → set.contains U c ≡ true → eq_by_cmp bytes_cmp c B ≡ false
  not_new c i = other_name c B U i can.free

  row_none : (r : Row) → Fits s.columns r → at r B ≡ None
  row_none r h = fits_none s.columns r h B can.free

  view_none : (n : Row) → Fits view.columns n → at n A ≡ None
  view_none n h = grind (arith, fits_nowhere, get-renamed, apart_names, name_itself)

  there : (r : Row) → Fits s.columns r → renamed_row B A (renamed_row A B r) ≡ r
  there r h = there_and_back A B r (row_none r h)

  back : (n : Row) → Fits view.columns n → renamed_row A B (renamed_row B A n) ≡ n
  back n h = there_and_back B A n (view_none n h)

  fits_back : (n : Row) → Fits view.columns n → Fits s.columns (renamed_row B A n)
  fits_back n h c = grind (arith, fits_same, at-renamed, get-renamed, name_itself, tied_name, none_fits, no_kind)

  -- rows turned back agree on columns where the rows agree on the renamed ones
  agree-back : (X : Names) → Within X U → (n p : Row) → agree X (renamed_row B A n) (renamed_row B A p) ≡ agree (renamed_names A B X) n p
  agree-back X w n p = same_bool _ _
      (λ g. agree_from (renamed_names A B X) n p (λ q i.
      let v = from_renamed A B X q i in let o = not_new v.0 (w v.0 v.1) in
      ap (at n) v.2 ∙ sym (at-back A B n v.0 o) ∙ agree_at X _ _ g v.0 v.1 ∙ at-back A B p v.0 o ∙ ap (at p) (sym v.2)))
      (λ g. agree_from X _ _ (λ c i.
      let o = not_new c (w c i) in
      at-back A B n c o ∙ agree_at (renamed_names A B X) n p g (renamed A B c) (in_renamed A B X c i) ∙ sym (at-back A B p c o)))

  -- a row of what is read, turned back, is a row of the source
  from_get : (M : Rows) → IsIn M s → (q : Row) → has (rename_get A B M) q ≡ true → (has M (renamed_row B A q) ≡ true) × Fits view.columns q
  unfolding rename_get
  from_get M m q i = grind (arith, from_image, there, fits_renamed)

  meets_there : (M N : Rows) (T : List Edge) → EdgesWithin U T → ((q : Row) → has N q ≡ true → has M (renamed_row B A q) ≡ true) → MeetsTree M T → MeetsTree N (renamed_tree A B T)
  meets_there M N [] w from mm = tt
  meets_there M N (e ∷ es) w from mm = (
    λ q p i j g. sym (agree-back e.right w.0.1 q p) ∙ mm.0 (renamed_row B A q) (renamed_row B A p) (from q i) (from p j) (agree-back e.left w.0.0 q p ∙ g),
    meets_there M N es w.1 from mm.1,
  )

  meets_back : (M N : Rows) (T : List Edge) → EdgesWithin U T → ((r : Row) → has M r ≡ true → (n : Row) × (has N n ≡ true) × (r ≡ renamed_row B A n)) → MeetsTree N (renamed_tree A B T) → MeetsTree M T
  meets_back M N [] w from mm = tt
  meets_back M N (e ∷ es) w from mm = (
    λ a b i j g.
        let u = from a i in let v = from b j in
        ap (λ z. agree e.right z b) u.2 ∙ ap (agree e.right (renamed_row B A u.0)) v.2 ∙ agree-back e.right w.0.1 u.0 v.0
        ∙ mm.0 u.0 v.0 u.1 v.1 (sym (agree-back e.left w.0.0 u.0 v.0) ∙ ap (λ z. agree e.left z (renamed_row B A v.0)) (sym u.2) ∙ ap (agree e.left a) (sym v.2) ∙ g),
    meets_back M N es w.1 from mm.1,
  )

  from_put : (N : Rows) (r : Row) → has (rename_put A B N) r ≡ true → (n : Row) × (has N n ≡ true) × (r ≡ renamed_row B A n)
  unfolding rename_put
  from_put N r i = from_image (renamed_row B A) N r i

  put_get : (N : Rows) → IsIn N view → rename_get A B (rename_put A B N) ≡ N
  unfolding rename_get rename_put
  put_get N n = same_rel _ N
      (λ q i.
      let u = from_image (renamed_row A B) _ q i in let v = from_image (renamed_row B A) N u.0 u.1 in
      ap (has N) (u.2 ∙ ap (renamed_row A B) v.2 ∙ back v.0 (n.columns v.0 v.1)) ∙ v.1)
      (λ q i. ap (has _) (sym (back q (n.columns q i))) ∙ in_image (renamed_row A B) _ (renamed_row B A q) (in_image (renamed_row B A) N q i))

  get_put : (M : Rows) → IsIn M s → rename_put A B (rename_get A B M) ≡ M
  unfolding rename_get rename_put
  get_put M m = same_rel _ M
      (λ r i.
      let u = from_image (renamed_row B A) _ r i in let v = from_image (renamed_row A B) M u.0 u.1 in
      ap (has M) (u.2 ∙ ap (renamed_row B A) v.2 ∙ there v.0 (m.columns v.0 v.1)) ∙ v.1)
      (λ r i. ap (has _) (sym (there r (m.columns r i))) ∙ in_image (renamed_row B A) _ (renamed_row A B r) (in_image (renamed_row A B) M r i))

  pub rename_lawful : IsLawful s view (rename_get A B) (λ N M. rename_put A B N)
  rename_lawful = record {
    get_sort = λ M m. record {
      columns = λ q i. (from_get M m q i).1;
      holds = λ q i. m.holds _ (from_get M m q i).0;
      meets = meets_there M (rename_get A B M) s.tree can.within (λ q i. (from_get M m q i).0) m.meets;
    };
    put_sort = λ N M m n. record {
      columns = λ r i. let w = from_put N r i in subst (Fits s.columns) (sym w.2) (fits_back w.0 (n.columns w.0 w.1));
      holds = λ r i. let w = from_put N r i in ap s.holds w.2 ∙ n.holds w.0 w.1;
      meets = meets_back (rename_put A B N) N s.tree can.within (from_put N) n.meets;
    };
    put_get = λ N M m n. put_get N n;
    get_put = λ M m. get_put M m;
  }

  -- ---- look-ups
  has_get : (M : Rows) → IsIn M s → (q : Row) → Fits view.columns q → has (rename_get A B M) q ≡ has M (renamed_row B A q)
  unfolding rename_get
  has_get M m q h = same_bool _ _ (λ i. (from_get M m q i).0) (λ i. ap (has _) (sym (back q h)) ∙ in_image (renamed_row A B) M (renamed_row B A q) i)

  -- a new name is not A
  pub not_old : (c : Name) → set.contains (renamed_names A B U) c ≡ true → eq_by_cmp bytes_cmp c A ≡ false
  not_old c i = false_from_ne_true _ (λ t.
      let v = from_renamed A B U c i in
      elim (cases_Bool (eq_by_cmp bytes_cmp v.0 A)) [
        | inl x ↦ absurd_false _ (ap (λ z. eq_by_cmp bytes_cmp z B) (sym (tied_name c A t) ∙ v.2 ∙ ap (λ y. cond y B v.0) x) ∙ name_itself B) apart_names
        | inr x ↦ absurd_false _ (ap (λ z. eq_by_cmp bytes_cmp z A) (sym (v.2 ∙ ap (λ y. cond y B v.0) x)) ∙ t) x
      ])

  -- the columns asked for, under their old names, are columns
  pub old_within : (C : Names) → Within C (renamed_names A B U) → Within (renamed_names B A C) U
  old_within C w d i = let u = from_renamed B A C d i in let v = from_renamed A B U u.0 (w u.0 u.1) in rw (u.2, v.2, renamed_twice B A v.0 (not_new v.0 v.1), v.1)

  old_new : (C : Names) → Within C (renamed_names A B U) → renamed_names A B (renamed_names B A C) ≡ C
  old_new C w = set.same_set name_total name_exact _ C (λ c. same_bool _ _
      (λ i. let u = from_renamed A B (renamed_names B A C) c i in let v = from_renamed B A C u.0 u.1 in
      ap (set.contains C) (u.2 ∙ ap (renamed A B) v.2 ∙ renamed_twice A B v.0 (not_old v.0 (w v.0 v.1))) ∙ v.1)
      (λ i. ap (set.contains _) (sym (renamed_twice A B c (not_old c (w c i)))) ∙ in_renamed A B (renamed_names B A C) (renamed B A c) (in_renamed B A C c i)))

  agree_old : (C : Names) → Within C (renamed_names A B U) → (k q : Row) → agree (renamed_names B A C) (renamed_row B A k) (renamed_row B A q) ≡ agree C k q
  agree_old C w k q = agree-back (renamed_names B A C) (old_within C w) k q ∙ ap (λ D. agree D k q) (old_new C w)

  pub find_rename : (M : Rows) → IsIn M s → (C : Names) → Within C (renamed_names A B U) → (k : Row) → find_by C k (rename_get A B M) ≡ rename_get A B (find_by (renamed_names B A C) (renamed_row B A k) M)
  unfolding rename_get
  find_rename M m C w k = same_rel _ _
      (λ q i.
      let v = from_those (agree C k) _ q i in let g = from_get M m q v.0 in
      ap (has _) (sym (back q g.1)) ∙ in_image (renamed_row A B) _ (renamed_row B A q) (in_those (agree (renamed_names B A C) (renamed_row B A k)) M _ g.0 (agree_old C w k q ∙ v.1)))
      (λ q i.
      let u = from_image (renamed_row A B) _ q i in let v = from_those (agree (renamed_names B A C) (renamed_row B A k)) M u.0 u.1 in
      let old : renamed_row B A q ≡ u.0 = ap (renamed_row B A) u.2 ∙ there u.0 (m.columns u.0 v.0) in
      in_those (agree C k) _ q (ap (has _) u.2 ∙ in_image (renamed_row A B) M u.0 v.0)
      (sym (agree_old C w k q) ∙ ap (agree (renamed_names B A C) (renamed_row B A k)) old ∙ v.1))

  pub has_rename : (M : Rows) → IsIn M s → (q : Row) → Fits view.columns q → (has (rename_get A B M) q ≡ has M (renamed_row B A q)) × Fits s.columns (renamed_row B A q)
  has_rename M m q h = (has_get M m q h, fits_back q h)

  -- ---- edits
  put-minus : (X Y : Rows) → ((n : Row) → has X n ≡ true → Fits view.columns n) → ((n : Row) → has Y n ≡ true → Fits view.columns n) → rename_put A B (minus X Y) ≡ minus (rename_put A B X) (rename_put A B Y)
  unfolding rename_put
  put-minus X Y hx hy = same_rel _ _
      (λ r i.
      let u = from_image (renamed_row B A) _ r i in let v = from_minus X Y u.0 u.1 in
      in_minus _ _ r (ap (has _) u.2 ∙ in_image (renamed_row B A) X u.0 v.0) (false_from_ne_true _ (λ j.
      let t = from_image (renamed_row B A) Y r j in
      let is : u.0 ≡ t.0 = sym (back u.0 (hx u.0 v.0)) ∙ ap (renamed_row A B) (sym u.2 ∙ t.2) ∙ back t.0 (hy t.0 t.1) in
      absurd_false _ (ap (has Y) is ∙ t.1) v.1)))
      (λ r i.
      let v = from_minus _ _ r i in let u = from_image (renamed_row B A) X r v.0 in
      ap (has _) u.2 ∙ in_image (renamed_row B A) (minus X Y) u.0 (in_minus X Y u.0 u.1 (false_from_ne_true _ (λ j. absurd_false _ (ap (has _) u.2 ∙ in_image (renamed_row B A) Y u.0 j) v.1))))

  pub rename_delta_is : (M : Rows) (d : Delta) → IsIn M s → Applies d (rename_get A B M) → IsIn (new_view (rename_get A B M) d) view
      → rename_delta A B d ≡ diff M (rename_put A B (new_view (rename_get A B M) d))
  unfolding rename_delta diff
  rename_delta_is M d m applies n =
      let V = rename_get A B M in let N = new_view V d in
      let own = get_put M m in
      let hV : (q : Row) → has V q ≡ true → Fits view.columns q = λ q i. (from_get M m q i).1 in
      let e = applies_is V d applies in
      ap (λ x. record { remove = rename_put A B x.remove; add = rename_put A B x.add }) e
      ∙ (λ i. record { remove = put-minus V N hV n.columns i; add = put-minus N V n.columns hV i })
      ∙ ap (λ X. record { remove = minus X (rename_put A B N); add = minus (rename_put A B N) X }) own
