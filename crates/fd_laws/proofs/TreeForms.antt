-- The tree form says what the dependencies say, and has the order that revision needs.
use Rattle.std.proofs.Common.{◌≡◌, ℕ, zero, suc, ◌≤◌, Bool, true, false, cond, List, [], ◌∷◌, ◌++◌, length, refl, sym, ap, ◌∙◌, subst, ◌⊎◌, inl, inr, Some, None, arith, nat_eq}
use Rattle.plain_values.proofs.Common.{cases_Bool, and_parts, and_from, or_cases, not-false, not_from_false, true≢false, false≢true, eq_by_cmp, any_at, same_is, bytes_cmp}
use Rattle.std.proofs.lemmas.Bool.{and_cases}
use Rattle.plain_values.specs.SortedSet as set
use Rattle.fd_laws.proofs.Closures.{closure_is, implied, first_passes, none_passes, all_from_rest, all_rest, length_rest}
use Rattle.fd_laws.proofs.Names.{within_trans, union_within, name_total, tied_name, name_itself, none_of_len, in_rest, from_rest, apart_back, subset_is, union_left, union_right, apart_fewer, apart_union}
use Rattle.fd_laws.proofs.Rows.{agree_at, agree_from}
use Rattle.fd_laws.proofs.Trees.{each_edge, both_edges}
use Rattle.lens_specs.specs.Common.{Name, Names, Within, Disjoint, share, same_names, Rows, Edge, edge, AllEdges, Meets, MeetsTree, closure, kept_edge, TreeForm, reduce_edge, reduce_all, with_right, tree_of, is_tree, not_tree, first_edge, rest_edges, cleaned, add_edge, grouped, narrowed_by, bad_left, bad_right, bad_fit, first_later, first_other, writes_to, is_free, stuck, put_first, ordered, reduced}
use Rattle.fd_laws.specs.Trees.{IsTree, IsBefore}

share_not : (X Y : Names) → share X Y ≡ false → Disjoint X Y
share_not X Y h c i = elim (cases_Bool (set.contains Y c)) [
  | inr f ↦ f
  | inl t ↦ absurd (true≢false (sym (any_at (eq_by_cmp bytes_cmp) tied_name name_itself (set.contains Y) (set.items X) c (sym (set.contains-items X c) ∙ i) t) ∙ h))
]

pub all_append : (P : Edge → Type 0) (xs ys : List Edge) → AllEdges P xs → AllEdges P ys → AllEdges P (xs ++ ys)
all_append P [] ys h k = k
all_append P (x ∷ xs) ys h k = (h.0, all_append P xs ys h.1 k)

pub append_parts : (P : Edge → Type 0) (xs ys : List Edge) → AllEdges P (xs ++ ys) → AllEdges P xs × AllEdges P ys
append_parts P [] ys h = (tt, h)
append_parts P (x ∷ xs) ys h = let w = append_parts P xs ys h.1 in ((h.0, w.0), w.1)

module _ (M : Rows) where
  abbrev Met : List Edge → Type 0
  Met F = MeetsTree M F

  -- fewer columns on the right
  meets_within : (X Y Z : Names) → Within Z Y → Meets M X Y → Meets M X Z
  meets_within X Y Z w h a b ia ib g = agree_from Z a b (λ c i. agree_at Y a b (h a b ia ib g) c (w c i))

  -- 1
  cleaned_to : (F : List Edge) → Met F → Met (cleaned F)
  cleaned_to [] h = tt
  cleaned_to (e ∷ es) h = (meets_within e.left e.right _ (λ c i. (from_rest e.right e.left c i).0) h.0, cleaned_to es h.1)

  cleaned_back : (F : List Edge) → Met (cleaned F) → Met F
  cleaned_back [] h = tt
  cleaned_back (e ∷ es) h = (
    (λ a b ia ib g. agree_from e.right a b (λ c i. elim (cases_Bool (set.contains e.left c)) [
      | inl l ↦ agree_at e.left a b g c l
      | inr o ↦ agree_at _ a b (h.0 a b ia ib g) c (in_rest e.right e.left c i o)
    ])),
    cleaned_back es h.1,
  )

  meets_union : (X Y Z : Names) → Meets M X Y → Meets M X Z → Meets M X (set.union Y Z)
  meets_union X Y Z h k a b ia ib g = agree_from _ a b (λ c i. elim (or_cases _ _ (sym (set.contains-union name_total Y Z c) ∙ i)) [
    | inl j ↦ agree_at Y a b (h a b ia ib g) c j
    | inr j ↦ agree_at Z a b (k a b ia ib g) c j
  ])

  add_to : (e : Edge) (ks : List Edge) → Meets M e.left e.right → Met ks → Met (add_edge e ks)
  add_to e [] h k = (h, tt)
  add_to e (x ∷ ks) h k =
      elim (same_names x.left e.left) as (λ b. same_names x.left e.left ≡ b → Met (cond b (edge x.left (set.union x.right e.right) ∷ ks) (x ∷ add_edge e ks))) [
        | true ↦ λ t. (meets_union x.left x.right e.right k.0 (subst (λ X. Meets M X e.right) (sym (same_is _ _ t)) h), k.1)
        | false ↦ λ _. (k.0, add_to e ks h k.1)
      ] refl

  add_back : (e : Edge) (ks : List Edge) → Met (add_edge e ks) → Meets M e.left e.right × Met ks
  add_back e [] h = h
  add_back e (x ∷ ks) h =
      elim (same_names x.left e.left) as (λ b. same_names x.left e.left ≡ b → Met (cond b (edge x.left (set.union x.right e.right) ∷ ks) (x ∷ add_edge e ks)) → Meets M e.left e.right × Met (x ∷ ks)) [
        | true ↦ λ t w. (
          subst (λ X. Meets M X e.right) (same_is _ _ t) (meets_within x.left (set.union x.right e.right) e.right (union_right x.right e.right) w.0),
          (meets_within x.left (set.union x.right e.right) x.right (union_left x.right e.right) w.0, w.1),
        )
        | false ↦ λ _ w. let v = add_back e ks w.1 in (v.0, (w.0, v.1))
      ] refl h

  grouped_to : (acc es : List Edge) → Met acc → Met es → Met (grouped acc es)
  grouped_to acc [] h k = h
  grouped_to acc (e ∷ es) h k = grouped_to (add_edge e acc) es (add_to e acc k.0 h) k.1

  grouped_back : (acc es : List Edge) → Met (grouped acc es) → Met acc × Met es
  grouped_back acc [] h = (h, tt)
  grouped_back acc (e ∷ es) h = let w = grouped_back (add_edge e acc) es h in let v = add_back e acc w.0 in (v.1, (v.0, w.1))

  -- 2
  middle : (before : List Edge) (e k : Edge) (after : List Edge) → (Meets M e.left e.right → Meets M k.left k.right) → Met (before ++ (e ∷ after)) → Met (before ++ (k ∷ after))
  middle before e k after f h = let w = append_parts (λ e. Meets M e.left e.right) before (e ∷ after) h in all_append (λ e. Meets M e.left e.right) before (k ∷ after) w.0 (f w.1.0, w.1.1)

  in_removed : (Y : Names) (c k : Name) → set.contains Y k ≡ true → (k ≡ c) ⊎ (set.contains (set.remove Y c) k ≡ true)
  in_removed Y c k i = elim (cases_Bool (eq_by_cmp bytes_cmp k c)) [
    | inl t ↦ inl (tied_name k c t)
    | inr f ↦ inr (set.contains-remove name_total Y c k ∙ and_from _ _ (not_from_false _ f) i)
  ]

  removed_within : (Y : Names) (c : Name) → Within (set.remove Y c) Y
  removed_within Y c k i = (and_parts _ _ (sym (set.contains-remove name_total Y c k) ∙ i)).1

  narrow_back : (before : List Edge) (e : Edge) (c : Name) (after : List Edge) → set.contains (closure e.left (before ++ (narrowed_by e c ∷ after))) c ≡ true
      → Met (before ++ (narrowed_by e c ∷ after)) → Met (before ++ (e ∷ after))
  narrow_back before e c after t h =
      middle before (narrowed_by e c) e after (λ k a b ia ib g. agree_from e.right a b (λ n i. elim (in_removed e.right c n i) [
        | inl is ↦ agree_at _ a b (implied e.left _ _ M (closure_is e.left (before ++ (narrowed_by e c ∷ after))) h a b ia ib g) n (ap (set.contains _) is ∙ t)
        | inr j ↦ agree_at _ a b (k a b ia ib g) n j
      ])) h

  narrowed_to : (before : List Edge) (e : Edge) (cs : List Name) (after : List Edge) → Met (before ++ (e ∷ after)) → Met (before ++ (reduce_edge before e cs after ∷ after))
  narrowed_to before e [] after h = h
  narrowed_to before e (c ∷ cs) after h =
      elim (set.contains (closure e.left (before ++ (narrowed_by e c ∷ after))) c) as (λ b. Met (before ++ (reduce_edge before (cond b (narrowed_by e c) e) cs after ∷ after))) [
        | true ↦ narrowed_to before (narrowed_by e c) cs after (middle before e (narrowed_by e c) after (meets_within e.left e.right _ (removed_within e.right c)) h)
        | false ↦ narrowed_to before e cs after h
      ]

  narrowed_back : (before : List Edge) (e : Edge) (cs : List Name) (after : List Edge) → Met (before ++ (reduce_edge before e cs after ∷ after)) → Met (before ++ (e ∷ after))
  narrowed_back before e [] after h = h
  narrowed_back before e (c ∷ cs) after h =
      elim (set.contains (closure e.left (before ++ (narrowed_by e c ∷ after))) c) as (λ b. set.contains (closure e.left (before ++ (narrowed_by e c ∷ after))) c ≡ b → Met (before ++ (reduce_edge before (cond b (narrowed_by e c) e) cs after ∷ after)) → Met (before ++ (e ∷ after))) [
        | true ↦ λ t w. narrow_back before e c after t (narrowed_back before (narrowed_by e c) cs after w)
        | false ↦ λ _ w. narrowed_back before e cs after w
      ] refl h

  shift : (before : List Edge) (e : Edge) (es : List Edge) → Met (before ++ (e ∷ es)) → Met ((before ++ (e ∷ [])) ++ es)
  shift before e es h = let w = append_parts (λ e. Meets M e.left e.right) before (e ∷ es) h in all_append _ (before ++ (e ∷ [])) es (all_append _ before (e ∷ []) w.0 (w.1.0, tt)) w.1.1

  unshift : (before : List Edge) (e : Edge) (es : List Edge) → Met ((before ++ (e ∷ [])) ++ es) → Met (before ++ (e ∷ es))
  unshift before e es h =
      let w = append_parts (λ e. Meets M e.left e.right) (before ++ (e ∷ [])) es h in
      let v = append_parts (λ e. Meets M e.left e.right) before (e ∷ []) w.0 in
      all_append _ before (e ∷ es) v.0 (v.1.0, w.1)

  reduced_to : (before es : List Edge) → Met (before ++ es) → Met (reduce_all before es)
  reduced_to before [] h = (append_parts (λ e. Meets M e.left e.right) before [] h).0
  reduced_to before (e ∷ es) h = reduced_to (before ++ (reduce_edge before e (set.items e.right) es ∷ [])) es (shift before _ es (narrowed_to before e (set.items e.right) es h))

  reduced_back : (before es : List Edge) → Met (reduce_all before es) → Met (before ++ es)
  reduced_back before [] h = all_append _ before [] h tt
  reduced_back before (e ∷ es) h = narrowed_back before e (set.items e.right) es (unshift before _ es (reduced_back (before ++ (reduce_edge before e (set.items e.right) es ∷ [])) es h))

  right_to : (F : List Edge) → Met F → Met (with_right F)
  right_to [] h = tt
  right_to (e ∷ es) h = elim (nat_eq (set.len e.right) 0) as (λ b. Met (kept_edge b e (with_right es))) [ true ↦ right_to es h.1 | false ↦ (h.0, right_to es h.1) ]

  right_back : (F : List Edge) → Met (with_right F) → Met F
  right_back [] h = tt
  right_back (e ∷ es) h =
      elim (nat_eq (set.len e.right) 0) as (λ b. nat_eq (set.len e.right) 0 ≡ b → Met (kept_edge b e (with_right es)) → Met (e ∷ es)) [
        | true ↦ λ z w. ((λ a b ia ib g. agree_from e.right a b (λ c i. absurd (true≢false (sym i ∙ none_of_len e.right c z)))), right_back es w)
        | false ↦ λ _ w. (w.0, right_back es w.1)
      ] refl h

  pub reduced_same : (F : List Edge) → (Met F → Met (reduced F)) × (Met (reduced F) → Met F)
  reduced_same F = (
    λ h. right_to _ (reduced_to [] _ (grouped_to [] (cleaned F) tt (cleaned_to F h))),
    λ h. cleaned_back F (grouped_back [] (cleaned F) (reduced_back [] _ (right_back _ h))).1,
  )

-- ---- a right side is apart from its own left side
abbrev Proper : Edge → Type 0
Proper e = Disjoint e.left e.right

cleaned_proper : (F : List Edge) → AllEdges Proper (cleaned F)
cleaned_proper [] = tt
cleaned_proper (e ∷ es) = ((λ c i. elim (cases_Bool (set.contains (set.difference e.right e.left) c)) [ inl t ↦ absurd (true≢false (sym i ∙ (from_rest e.right e.left c t).1)) | inr f ↦ f ]), cleaned_proper es)

-- what narrowing a right side and uniting two keep
module _ (P : Edge → Type 0) (narrow : (e : Edge) (Z : Names) → Within Z e.right → P e → P (edge e.left Z)) (unite : (x e : Edge) → x.left ≡ e.left → P x → P e → P (edge x.left (set.union x.right e.right))) where
  cleaned_keeps : (F : List Edge) → AllEdges P F → AllEdges P (cleaned F)
  cleaned_keeps [] h = tt
  cleaned_keeps (e ∷ es) h = (narrow e (set.difference e.right e.left) (λ c i. (from_rest e.right e.left c i).0) h.0, cleaned_keeps es h.1)

  add_keeps : (e : Edge) (ks : List Edge) → P e → AllEdges P ks → AllEdges P (add_edge e ks)
  add_keeps e [] h k = (h, tt)
  add_keeps e (x ∷ ks) h k =
      elim (same_names x.left e.left) as (λ b. same_names x.left e.left ≡ b → AllEdges P (cond b (edge x.left (set.union x.right e.right) ∷ ks) (x ∷ add_edge e ks))) [
        | true ↦ λ t. (unite x e (same_is x.left e.left t) k.0 h, k.1)
        | false ↦ λ _. (k.0, add_keeps e ks h k.1)
      ] refl

  grouped_keeps : (acc es : List Edge) → AllEdges P acc → AllEdges P es → AllEdges P (grouped acc es)
  grouped_keeps acc [] h k = h
  grouped_keeps acc (e ∷ es) h k = grouped_keeps (add_edge e acc) es (add_keeps e acc k.0 h) k.1

  narrowed_keeps : (before : List Edge) (e : Edge) (cs : List Name) (after : List Edge) → P e → P (reduce_edge before e cs after)
  narrowed_keeps before e [] after h = h
  narrowed_keeps before e (c ∷ cs) after h =
      elim (set.contains (closure e.left (before ++ (narrowed_by e c ∷ after))) c) as (λ b. P (reduce_edge before (cond b (narrowed_by e c) e) cs after)) [
        | true ↦ narrowed_keeps before (narrowed_by e c) cs after (narrow e (set.remove e.right c) (λ k i. (and_parts _ _ (sym (set.contains-remove name_total e.right c k) ∙ i)).1) h)
        | false ↦ narrowed_keeps before e cs after h
      ]

  reduced_keeps : (before es : List Edge) → AllEdges P before → AllEdges P es → AllEdges P (reduce_all before es)
  reduced_keeps before [] h k = h
  reduced_keeps before (e ∷ es) h k =
      let r = reduce_edge before e (set.items e.right) es in
      reduced_keeps (before ++ (reduce_edge before e (set.items e.right) es ∷ [])) es (all_append P before (r ∷ []) h (narrowed_keeps before e (set.items e.right) es k.0, tt)) k.1

  right_keeps : (F : List Edge) → AllEdges P F → AllEdges P (with_right F)
  right_keeps [] h = tt
  right_keeps (e ∷ es) h = elim (nat_eq (set.len e.right) 0) as (λ b. AllEdges P (kept_edge b e (with_right es))) [ true ↦ right_keeps es h.1 | false ↦ (h.0, right_keeps es h.1) ]

  pub form_keeps : (F : List Edge) → AllEdges P (cleaned F) → AllEdges P (reduced F)
  form_keeps F h = right_keeps _ (reduced_keeps [] _ tt (grouped_keeps [] (cleaned F) tt h))

-- ---- the tests of pairs
abbrev Pairs : (Edge → Edge → Type 0) → List Edge → Type 0
Pairs R [] = Unit {0}
Pairs R (e ∷ es) = AllEdges (R e) es × Pairs R es

both_pairs : (R S Q : Edge → Edge → Type 0) → ((e k : Edge) → R e k → S e k → Q e k) → (es : List Edge) → Pairs R es → Pairs S es → Pairs Q es
both_pairs R S Q f [] h k = tt
both_pairs R S Q f (e ∷ es) h k = (both_edges (R e) (S e) (Q e) (f e) es h.0 k.0, both_pairs R S Q f es h.1 k.1)

later_is : (bad : Edge → Edge → Bool) (shown : Edge → Edge → TreeForm) (T : List Edge) → ((e k : Edge) → shown e k ≡ is_tree T → ⊥) → (es : List Edge) (o : TreeForm)
    → first_later bad shown es o ≡ is_tree T → Pairs (λ e k. bad e k ≡ false) es × (o ≡ is_tree T)
later_is bad shown T never [] o h = (tt, h)
later_is bad shown T never (e ∷ es) o h =
    elim (first_edge (bad e) es) as (λ f. first_edge (bad e) es ≡ f → (elim f [ Some k ↦ shown e k | None ↦ first_later bad shown es o ]) ≡ is_tree T → Pairs (λ e k. bad e k ≡ false) (e ∷ es) × (o ≡ is_tree T)) [
      | Some k ↦ λ _ is. absurd (never e k is)
      | None ↦ λ n is. let w = later_is bad shown T never es o is in ((none_passes (bad e) es n, w.0), w.1)
    ] refl h

other_is : (bad : Edge → Edge → Bool) (shown : Edge → Edge → TreeForm) (T : List Edge) → ((e k : Edge) → shown e k ≡ is_tree T → ⊥) → (before es : List Edge) (o : TreeForm)
    → first_other bad shown before es o ≡ is_tree T
    → AllEdges (λ e. AllEdges (λ b. bad e b ≡ false) before) es × Pairs (λ e k. (bad e k ≡ false) × (bad k e ≡ false)) es × (o ≡ is_tree T)
other_is bad shown T never before [] o h = (tt, tt, h)
other_is bad shown T never before (e ∷ es) o h =
    elim (first_edge (bad e) (before ++ es)) as (λ f. first_edge (bad e) (before ++ es) ≡ f → (elim f [ Some k ↦ shown e k | None ↦ first_other bad shown (before ++ (e ∷ [])) es o ]) ≡ is_tree T
    → AllEdges (λ e. AllEdges (λ b. bad e b ≡ false) before) (e ∷ es) × Pairs (λ e k. (bad e k ≡ false) × (bad k e ≡ false)) (e ∷ es) × (o ≡ is_tree T)) [
      | Some k ↦ λ _ is. absurd (never e k is)
      | None ↦ λ n is.
          let w = other_is bad shown T never (before ++ (e ∷ [])) es o is in
          let v = append_parts (λ k. bad e k ≡ false) before es (none_passes (bad e) (before ++ es) n) in
          let u = each_edge (λ k. AllEdges (λ b. bad k b ≡ false) (before ++ (e ∷ []))) (λ k. AllEdges (λ b. bad k b ≡ false) before × (bad k e ≡ false))
          (λ k a. let z = append_parts (λ b. bad k b ≡ false) before (e ∷ []) a in (z.0, z.1.0)) es w.0 in (
            (v.0, each_edge (λ k. AllEdges (λ b. bad k b ≡ false) before × (bad k e ≡ false)) (λ k. AllEdges (λ b. bad k b ≡ false) before) (λ k z. z.0) es u),
            (both_edges (λ k. bad e k ≡ false) (λ k. AllEdges (λ b. bad k b ≡ false) before × (bad k e ≡ false)) (λ k. (bad e k ≡ false) × (bad k e ≡ false)) (λ k p z. (p, z.1)) es v.1 u, w.1),
            w.2,
          )
    ] refl h

-- what the tests leave, the same both ways
record Compat (e k : Edge) : Type 0 where
  lefts : Disjoint e.left k.left
  rights : Disjoint e.right k.right
  there : Disjoint e.left k.right ⊎ Within e.left k.right
  back : Disjoint k.left e.right ⊎ Within k.left e.right

turn : (e k : Edge) → Compat e k → Compat k e
turn e k c = record { lefts = apart_back _ _ c.lefts; rights = apart_back _ _ c.rights; there = c.back; back = c.there }

fit_is : (e k : Edge) → bad_fit e k ≡ false → Disjoint e.left k.right ⊎ Within e.left k.right
fit_is e k h = elim (and_cases _ _ h) [
  | inl z ↦ inl (share_not e.left k.right z)
  | inr z ↦ inr (subset_is e.left k.right (not-false _ z))
]

-- ---- the order
pick_pairs : (p : Edge → Bool) (es : List Edge) (e : Edge) → first_edge p es ≡ Some e → Pairs Compat es → AllEdges (Compat e) (rest_edges p es) × Pairs Compat (rest_edges p es)
pick_pairs p [] e h k = cc
pick_pairs p (x ∷ es) e h k =
    elim (p x) as (λ b. cond b (Some x) (first_edge p es) ≡ Some e → AllEdges (Compat e) (cond b es (x ∷ rest_edges p es)) × Pairs Compat (cond b es (x ∷ rest_edges p es))) [
      | true ↦ λ is. let same : x ≡ e = cc in (subst (λ z. AllEdges (Compat z) es) same k.0, k.1)
      | false ↦ λ is.
          let w = pick_pairs p es e is k.1 in
          let v = all_rest p (Compat x) es e is k.0 in
          ((turn x e v.0, w.0), (v.1, w.1))
    ] h

free_is : (es : List Edge) (e : Edge) → is_free es e ≡ true → AllEdges (λ k. Disjoint e.left k.right) es
free_is es e h =
    elim (first_edge (writes_to e) es) as (λ o. first_edge (writes_to e) es ≡ o → (elim o [ None ↦ true | Some k ↦ false ]) ≡ true → AllEdges (λ k. Disjoint e.left k.right) es) [
      | None ↦ λ n _. each_edge (λ k. writes_to e k ≡ false) (λ k. Disjoint e.left k.right) (λ k z. share_not e.left k.right z) es (none_passes (writes_to e) es n)
      | Some k ↦ λ _ z. absurd (false≢true z)
    ] refl h

stuck_is : (es T : List Edge) → stuck es ≡ is_tree T → (es ≡ []) × (T ≡ [])
stuck_is [] T h = (refl, cc)
stuck_is (e ∷ es) T h =
    elim (first_edge (writes_to e) (e ∷ es)) as (λ o. (elim o [ None ↦ not_tree e.left e.right | Some k ↦ not_tree e.left k.right ]) ≡ is_tree T → (e ∷ es ≡ []) × (T ≡ [])) [
      | None ↦ λ z. absurd (cc)
      | Some k ↦ λ z. absurd (cc)
    ] h

pub put_first_is : (e : Edge) (o : TreeForm) (T : List Edge) → put_first e o ≡ is_tree T → (K : List Edge) × (o ≡ is_tree K) × (T ≡ e ∷ K)
put_first_is e (is_tree K) T h = (K, refl, cc)
put_first_is e (not_tree X Y) T h = absurd (cc)

-- what holds of each edge before holds of each after
pub ordered_to : (P : Edge → Type 0) (n : ℕ) (es T : List Edge) → ordered n es ≡ is_tree T → AllEdges P es → AllEdges P T
ordered_to P zero es T h k = let is : T ≡ [] = cc in subst (AllEdges P) (sym is) tt
ordered_to P (suc n) es T h k =
    elim (first_edge (is_free es) es) as (λ o. first_edge (is_free es) es ≡ o → (elim o [ None ↦ stuck es | Some e ↦ put_first e (ordered n (rest_edges (is_free es) es)) ]) ≡ is_tree T → AllEdges P T) [
      | None ↦ λ _ is. subst (AllEdges P) (sym (stuck_is es T is).1) tt
      | Some e ↦ λ f is.
          let w = put_first_is e _ T is in
          let v = all_rest (is_free es) P es e f k in
          subst (AllEdges P) (sym w.2) (v.0, ordered_to P n (rest_edges (is_free es) es) w.0 w.1 v.1)
    ] refl h

ordered_back : (P : Edge → Type 0) (n : ℕ) (es T : List Edge) → length es ≤ n → ordered n es ≡ is_tree T → AllEdges P T → AllEdges P es
ordered_back P zero [] T l h k = tt
ordered_back P zero (e ∷ es) T l h k = absurd (omega arith)
ordered_back P (suc n) es T l h k =
    elim (first_edge (is_free es) es) as (λ o. first_edge (is_free es) es ≡ o → (elim o [ None ↦ stuck es | Some e ↦ put_first e (ordered n (rest_edges (is_free es) es)) ]) ≡ is_tree T → AllEdges P es) [
      | None ↦ λ _ is. subst (AllEdges P) (sym (stuck_is es T is).0) tt
      | Some e ↦ λ f is.
          let w = put_first_is e _ T is in
          let v = subst (AllEdges P) w.2 k in
          all_from_rest (is_free es) P es e f v.0 (ordered_back P n (rest_edges (is_free es) es) w.0 (let m = length_rest (is_free es) es e f in omega arith) w.1 v.1)
    ] refl h

ordered_tree : (n : ℕ) (es T : List Edge) → Pairs Compat es → AllEdges Proper es → ordered n es ≡ is_tree T → IsTree T
ordered_tree zero es T c p h = let is : T ≡ [] = cc in subst IsTree (sym is) tt
ordered_tree (suc n) es T c p h =
    elim (first_edge (is_free es) es) as (λ o. first_edge (is_free es) es ≡ o → (elim o [ None ↦ stuck es | Some e ↦ put_first e (ordered n (rest_edges (is_free es) es)) ]) ≡ is_tree T → IsTree T) [
      | None ↦ λ _ is. subst IsTree (sym (stuck_is es T is).1) tt
      | Some e ↦ λ f is.
          let w = put_first_is e _ T is in
          let q = pick_pairs (is_free es) es e f c in
          let r = all_rest (is_free es) Proper es e f p in
          let free = (all_rest (is_free es) (λ k. Disjoint e.left k.right) es e f (free_is es e (first_passes (is_free es) es e f))).1 in
          let before = both_edges (Compat e) (λ k. Disjoint e.left k.right) (IsBefore e) (λ k a b. record { lefts = a.lefts; rights = a.rights; reads = b; fits = a.back }) (rest_edges (is_free es) es) q.0 free in
          subst IsTree (sym w.2) (r.0, ordered_to (IsBefore e) n (rest_edges (is_free es) es) w.0 w.1 before, ordered_tree n (rest_edges (is_free es) es) w.0 q.1 r.1 w.1)
    ] refl h

-- ---- the tree form
pub tree_of_is : (F T : List Edge) → tree_of F ≡ is_tree T → IsTree T × ((M : Rows) → (MeetsTree M F → MeetsTree M T) × (MeetsTree M T → MeetsTree M F))
unfolding tree_of
tree_of_is F T h =
    let R = reduced F in
    let l = later_is bad_left (λ e k. not_tree e.left k.left) T (λ e k z. cc) R _ h in
    let r = later_is bad_right (λ e k. not_tree e.right k.right) T (λ e k z. cc) R _ l.1 in
    let f = other_is bad_fit (λ e k. not_tree e.left k.right) T (λ e k z. cc) [] R _ r.1 in
    let compat = both_pairs (λ e k. (bad_left e k ≡ false) × (bad_right e k ≡ false)) (λ e k. (bad_fit e k ≡ false) × (bad_fit k e ≡ false)) Compat
    (λ e k p q. record { lefts = share_not _ _ p.0; rights = share_not _ _ p.1; there = fit_is e k q.0; back = fit_is k e q.1 }) R
    (both_pairs (λ e k. bad_left e k ≡ false) (λ e k. bad_right e k ≡ false) (λ e k. (bad_left e k ≡ false) × (bad_right e k ≡ false)) (λ e k p q. (p, q)) R l.0 r.0) f.1 in
    let proper = form_keeps Proper (λ e Z w h. apart_fewer e.left e.right Z w h) (λ x e is h k. apart_union x.left x.right e.right h (subst (λ X. Disjoint X e.right) (sym is) k)) F (cleaned_proper F) in (
      ordered_tree (length R) R T compat proper f.2,
      λ M. let w = reduced_same M F in (
        λ m. ordered_to (λ e. Meets M e.left e.right) (length R) R T f.2 (w.0 m),
        λ m. w.1 (ordered_back (λ e. Meets M e.left e.right) (length R) R T (omega arith) f.2 m),
      ),
    )

-- what narrowing and uniting keep, the tree form keeps
tree_of_keeps : (P : Edge → Type 0) → ((e : Edge) (Z : Names) → Within Z e.right → P e → P (edge e.left Z)) → ((x e : Edge) → x.left ≡ e.left → P x → P e → P (edge x.left (set.union x.right e.right)))
    → (F T : List Edge) → tree_of F ≡ is_tree T → AllEdges P F → AllEdges P T
unfolding tree_of
tree_of_keeps P narrow unite F T h w =
    let R = reduced F in
    let l = later_is bad_left (λ e k. not_tree e.left k.left) T (λ e k z. cc) R _ h in
    let r = later_is bad_right (λ e k. not_tree e.right k.right) T (λ e k z. cc) R _ l.1 in
    let f = other_is bad_fit (λ e k. not_tree e.left k.right) T (λ e k z. cc) [] R _ r.1 in
    ordered_to P (length R) R T f.2 (form_keeps P narrow unite F (cleaned_keeps P narrow unite F w))

-- the tree form looks at no other columns
pub tree_of_within : (U : Names) (F T : List Edge) → tree_of F ≡ is_tree T → AllEdges (λ e. Within e.left U × Within e.right U) F → AllEdges (λ e. Within e.left U × Within e.right U) T
tree_of_within U F T h w = tree_of_keeps (λ e. Within e.left U × Within e.right U) (λ e Z v p. (p.0, within_trans Z e.right U v p.1)) (λ x e is p q. (p.0, union_within x.right e.right U p.1 q.1)) F T h w

-- its left sides are left sides of the dependencies
pub tree_of_lefts : (P : Names → Type 0) (F T : List Edge) → tree_of F ≡ is_tree T → AllEdges (λ e. P e.left) F → AllEdges (λ e. P e.left) T
tree_of_lefts P F T h w = tree_of_keeps (λ e. P e.left) (λ e Z v p. p) (λ x e is p q. p) F T h w

-- and each of its edges has a right side
right_full : (F : List Edge) → AllEdges (λ e. nat_eq (set.len e.right) 0 ≡ false) (with_right F)
right_full [] = tt
right_full (e ∷ es) = elim (nat_eq (set.len e.right) 0) as (λ b. nat_eq (set.len e.right) 0 ≡ b → AllEdges (λ e. nat_eq (set.len e.right) 0 ≡ false) (kept_edge b e (with_right es))) [
  | true ↦ λ _. right_full es
  | false ↦ λ some. (some, right_full es)
] refl

pub tree_of_rights : (F T : List Edge) → tree_of F ≡ is_tree T → AllEdges (λ e. nat_eq (set.len e.right) 0 ≡ false) T
unfolding tree_of
tree_of_rights F T h =
    let R = reduced F in
    let l = later_is bad_left (λ e k. not_tree e.left k.left) T (λ e k z. cc) R _ h in
    let r = later_is bad_right (λ e k. not_tree e.right k.right) T (λ e k z. cc) R _ l.1 in
    let f = other_is bad_fit (λ e k. not_tree e.left k.right) T (λ e k z. cc) [] R _ r.1 in
    ordered_to (λ e. nat_eq (set.len e.right) 0 ≡ false) (length R) R T f.2 (right_full (reduce_all [] (grouped [] (cleaned F))))
