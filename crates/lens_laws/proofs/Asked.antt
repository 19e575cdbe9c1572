-- The sets by which the nodes are asked: each has a column, and each that is handed down is one of the child's.
use Rattle.std.proofs.Common.{◌≡◌, Bool, true, false, cond, suc, List, [], ◌∷◌, ◌++◌, length, map, refl, sym, ap, ◌∙◌, subst, ◌⊎◌, inl, inr, arith, nat_eq}
use Rattle.plain_values.proofs.Common.{or_cases, true≢false, false_from_ne_true, Contains-append_left, Contains-append_cases, Contains, list_any, filter, eq_by_cmp, bytes_cmp, in_head, any_at, any_from, absurd_false, length-map}
use Rattle.plain_values.specs.SortedSet as set
use Rattle.plain_values.specs.declared.value.Value.{Value}
use Rattle.plain_values.specs.declared.join_kind.JoinKind.{JoinKind}
use Rattle.fd_laws.proofs.Common.{closure_is, names-without, name_total, name_itself, tied_name, from_shared, from_rest, one_is, all_append, both_edges, each_edge, names-both, in_shared, in_rest, union_right, in_renamed, at_edge, all_without}
use Rattle.lens_laws.proofs.NodeLaws.{sound, rename_can}
use Rattle.lens_laws.proofs.Rename.{old_within}
use Rattle.lens_laws.proofs.RenameSorts.{names-renamed}
use Rattle.fd_laws.proofs.TreeForms.{tree_of_lefts, tree_of_rights}
use Rattle.lens_specs.specs.Common.{names, Edge, AllEdges, closure, is_tree, kept_edge, tree_of, tree_without, Lens, base, select, drop, rename, sort_of, view_names, Name, Names, Within, share, one, renamed, renamed_names, renamed_tree, IsClosed, narrowed, join}
use Rattle.std.specs.FinMap as finmap
use Rattle.lens_laws.specs.Asked.{IsFilled, left_sides, parts, keys_at, side_keys, AreKeys, HasKeys, HandsDown, MayBeAsked, Reaches}
use Rattle.lens_laws.specs.Lenses.{IsTyped}
use Rattle.lens_laws.specs.Shapes.{shape_of}

-- ---- membership in lists
module _ {T : Type 0} where
  pub contains_head : (x : T) (xs : List T) → Contains (x ∷ xs) x
  contains_head x xs = (0, omega arith, refl)

  pub contains_tail : (x y : T) (xs : List T) → Contains xs x → Contains (y ∷ xs) x
  contains_tail x y xs h = (suc h.0, omega arith, h.2)

  pub contains_cases : (x y : T) (xs : List T) → Contains (y ∷ xs) x → (x ≡ y) ⊎ Contains xs x
  contains_cases x y xs h = grind arith

  pub contains_filter : (p : T → Bool) (xs : List T) (x : T) → Contains xs x → p x ≡ true → Contains (filter p xs) x
  contains_filter p [] x h t = absurd (omega arith)
  contains_filter p (y ∷ ys) x h t =
      elim (p y) as (λ b. p y ≡ b → Contains (cond b (y ∷ filter p ys) (filter p ys)) x) [
        | true ↦ λ e. elim (contains_cases x y ys h) [ inl is ↦ subst (λ z. Contains (z ∷ filter p ys) x) is (contains_head x _) | inr j ↦ contains_tail x y _ (contains_filter p ys x j t) ]
        | false ↦ λ e. elim (contains_cases x y ys h) [ inl is ↦ absurd (true≢false (sym t ∙ ap p is ∙ e)) | inr j ↦ contains_filter p ys x j t ]
      ] refl

  pub from_filter_contains : (p : T → Bool) (xs : List T) (x : T) → Contains (filter p xs) x → Contains xs x × (p x ≡ true)
  from_filter_contains p [] x h = absurd (omega arith)
  from_filter_contains p (y ∷ ys) x h =
      elim (p y) as (λ b. p y ≡ b → Contains (cond b (y ∷ filter p ys) (filter p ys)) x → Contains (y ∷ ys) x × (p x ≡ true)) [
        | true ↦ λ e i. elim (contains_cases x y _ i) [
          | inl is ↦ (subst (λ z. Contains (z ∷ ys) x) is (contains_head x ys), ap p is ∙ e)
          | inr j ↦ let r = from_filter_contains p ys x j in (contains_tail x y ys r.0, r.1)
        ]
        | false ↦ λ e i. let r = from_filter_contains p ys x i in (contains_tail x y ys r.0, r.1)
      ] refl h

pub contains_map : {A B : Type 0} (f : A → B) (xs : List A) (x : A) → Contains xs x → Contains (map f xs) (f x)
contains_map f [] x h = absurd (omega arith)
contains_map f (y ∷ ys) x h = elim (contains_cases x y ys h) [
  | inl is ↦ subst (λ z. Contains (f z ∷ map f ys) (f x)) is (contains_head (f x) (map f ys))
  | inr j ↦ contains_tail (f x) (f y) (map f ys) (contains_map f ys x j)
]

pub from_map_contains : {A B : Type 0} (f : A → B) (xs : List A) (q : B) → Contains (map f xs) q → (x : A) × Contains xs x × (q ≡ f x)
from_map_contains f [] q h = absurd (omega arith)
from_map_contains f (y ∷ ys) q h = elim (contains_cases q (f y) (map f ys) h) [
  | inl is ↦ (y, contains_head y ys, is)
  | inr j ↦ let r = from_map_contains f ys q j in (r.0, contains_tail r.0 y ys r.1, r.2)
]

-- ---- sets with a column
none_listed : (p : Name → Bool) (xs : List Name) → length xs ≡ 0 → list_any p xs ≡ false
none_listed p [] e = refl
none_listed p (x ∷ xs) e = absurd (omega arith)

some_listed : (xs : List Name) → (length xs ≡ 0 → ⊥) → (c : Name) × (list_any (eq_by_cmp bytes_cmp c) xs ≡ true)
some_listed [] h = absurd (h refl)
some_listed (x ∷ xs) h = (x, in_head (eq_by_cmp bytes_cmp) tied_name name_itself x xs)

pub filled_from : (C : Names) (c : Name) → set.contains C c ≡ true → IsFilled C
filled_from C c i e = absurd_false _ i (set.contains-items C c ∙ none_listed (eq_by_cmp bytes_cmp c) (set.items C) e)

pub filled_has : (C : Names) → IsFilled C → (c : Name) × (set.contains C c ≡ true)
filled_has C h = let w = some_listed (set.items C) h in (w.0, set.contains-items C w.0 ∙ w.1)

pub filled_more : (C D : Names) → Within C D → IsFilled C → IsFilled D
filled_more C D w h = let c = filled_has C h in filled_from D c.0 (w c.0 c.1)

pub shares_from : (C D : Names) (c : Name) → set.contains C c ≡ true → set.contains D c ≡ true → share C D ≡ true
shares_from C D c i j = any_at (eq_by_cmp bytes_cmp) tied_name name_itself (set.contains D) (set.items C) c (sym (set.contains-items C c) ∙ i) j

pub shares_has : (C D : Names) → share C D ≡ true → (c : Name) × (set.contains C c ≡ true) × (set.contains D c ≡ true)
shares_has C D h = let w = any_from (eq_by_cmp bytes_cmp) tied_name name_itself (set.contains D) (set.items C) h in (w.0, set.contains-items C w.0 ∙ w.1, w.2)

pub shared_filled : (C D : Names) → share C D ≡ true → IsFilled (set.intersection C D)
shared_filled C D h = let w = shares_has C D h in filled_from _ w.0 (in_shared C D w.0 w.1 w.2)

-- columns of two sides, none of them of the first
pub shares_other : (C U V : Names) → IsFilled C → Within C (set.union U V) → share C U ≡ false → share C V ≡ true
shares_other C U V h w o = grind (arith, filled_has, or_cases, set.contains-union name_total, absurd_false, shares_from)

-- ---- what is handed down
pub in_parts : (U : Names) (K : List Names) (C : Names) → Contains K C → share C U ≡ true → Contains (parts U K) (set.intersection C U)
in_parts U K C i s = contains_map (λ C. set.intersection C U) (filter (λ C. share C U) K) C (contains_filter (λ C. share C U) K C i s)

pub side_keys_are : (S U : Names) (K : List Names) → IsFilled S → Within S U → AreKeys U (side_keys S U K)
side_keys_are S U K f w D i = elim (contains_cases D S (parts U K) i) [
  | inl is ↦ subst (λ Z. IsFilled Z × Within Z U) (sym is) (f, w)
  | inr j ↦
      let u = from_map_contains (λ C. set.intersection C U) (filter (λ C. share C U) K) D j in
      let v = from_filter_contains (λ C. share C U) K u.0 u.1 in
      subst (λ Z. IsFilled Z × Within Z U) (sym u.2) (shared_filled u.0 U v.1, λ c k. (from_shared u.0 U c k).1)
]

left_sides_are : (P : Names → Type 0) (T : List Edge) → AllEdges (λ e. P e.left) T → (C : Names) → Contains (left_sides T) C → P C
left_sides_are P [] h C i = absurd (omega arith)
left_sides_are P (e ∷ es) h C i = elim (contains_cases C e.left (left_sides es) i) [
  | inl is ↦ subst P (sym is) h.0
  | inr j ↦ left_sides_are P es h.1 C j
]

-- ---- lenses whose tables have keys
closed_by_none : (F : List Edge) (S : Names) → AllEdges (λ e. IsFilled e.left) F → (IsFilled S → ⊥) → IsClosed S F
closed_by_none [] S h o = tt
closed_by_none (e ∷ es) S h o = (λ w. absurd (o (filled_more e.left S w h.0)), closed_by_none es S h.1 o)

-- what columns decide more than nothing, where each left side has a column
pub decided_filled : (S V : Names) (F : List Edge) → AllEdges (λ e. IsFilled e.left) F → IsFilled V → Within V (closure S F) → IsFilled S
decided_filled S V F h v w e =
    let no : IsFilled S → ⊥ = λ f. f e in
    no (filled_more V S (λ c i. (closure_is S F).least S (λ c i. i) (closed_by_none F S h no) c (w c i)) v)

-- ---- under a rename
filled_renamed : (A B : Name) (C : Names) → IsFilled C → IsFilled (renamed_names A B C)
filled_renamed A B C h = let w = filled_has C h in filled_from _ (renamed A B w.0) (in_renamed A B C w.0 w.1)

lefts_renamed : (A B : Name) (T : List Edge) → AllEdges (λ e. IsFilled e.left) T → AllEdges (λ e. IsFilled e.left) (renamed_tree A B T)
lefts_renamed A B [] h = tt
lefts_renamed A B (e ∷ es) h = (filled_renamed A B e.left h.0, lefts_renamed A B es h.1)

rights_renamed : (A B : Name) (T : List Edge) → AllEdges (λ e. IsFilled e.right) T → AllEdges (λ e. IsFilled e.right) (renamed_tree A B T)
rights_renamed A B [] h = tt
rights_renamed A B (e ∷ es) h = (filled_renamed A B e.right h.0, rights_renamed A B es h.1)

-- ---- the columns and the edges of a view
pub keyed : (L : Lens) → IsTyped L → HasKeys L → IsFilled (view_names L) × AllEdges (λ e. IsFilled e.left) (sort_of L).tree
keyed (base t s) h k = (k.0, each_edge (λ e. IsFilled e.left × IsFilled e.right) (λ e. IsFilled e.left) (λ e w. w.0) s.tree k.1)
keyed (select P L) h k = keyed L h.0 k
keyed (drop A X a L) h k =
    let w = keyed L h.0 k in
    let s = sort_of L in
    let left : Within X (names s.columns) = subst (λ Z. Within Z (names s.columns)) h.1.left (at_edge (λ e. Within e.left (names s.columns) × Within e.right (names s.columns)) s.tree h.1.from h.1.among (sound L h.0).within).0 in
    let out : set.contains X A ≡ false = subst (λ Z. set.contains Z A ≡ false) h.1.left (at_edge (λ e. set.contains e.left A ≡ false) s.tree h.1.from h.1.among h.1.lefts) in
    let full : IsFilled X = subst IsFilled h.1.left (at_edge (λ e. IsFilled e.left) s.tree h.1.from h.1.among w.1) in (
      filled_more X _ (λ c i. ap (λ U. set.contains U c) (names-without s.columns A) ∙ in_rest (names s.columns) (one A) c (left c i) (false_from_ne_true _ (λ j. absurd_false _ (ap (set.contains X) (sym (one_is A c j)) ∙ i) out))) full,
      all_without (λ e. IsFilled e.left) (one A) s.tree w.1,
    )
keyed (rename A B L) h k =
    let w = keyed L h.0 k in
    let s = sort_of L in (
      subst IsFilled (sym (names-renamed A B s.columns h.1.column h.1.free)) (filled_renamed A B (names s.columns) w.0),
      lefts_renamed A B s.tree w.1,
    )
keyed (join kind A B) h k =
    let a = keyed A h.0 k.0 in let b = keyed B h.1 k.1 in (
      subst IsFilled (sym (names-both (sort_of A).columns (sort_of B).columns)) (filled_more (view_names B) _ (union_right (view_names A) (view_names B)) b.0),
      tree_of_lefts IsFilled ((sort_of A).tree ++ (sort_of B).tree) (sort_of (join kind A B)).tree h.2.form (all_append (λ e. IsFilled e.left) (sort_of A).tree (sort_of B).tree a.1 b.1),
    )

-- ---- right sides
pub names_len : (U : Names) → finmap.len U ≡ length (set.items U)
names_len U = finmap.len-entries U ∙ sym (length-map (finmap.entries U) (λ e. e.0))

filled_len : (Y : Names) → nat_eq (set.len Y) 0 ≡ false → IsFilled Y
unfolding set.len
filled_len Y o e = absurd_false _ (ap (λ n. nat_eq n 0) (names_len Y ∙ e)) o

rights_without : (C : Names) (T : List Edge) → AllEdges (λ e. nat_eq (set.len e.right) 0 ≡ false) (tree_without C T)
unfolding tree_without
rights_without C [] = tt
rights_without C (e ∷ es) = elim (nat_eq (set.len (set.difference e.right C)) 0) as (λ b. nat_eq (set.len (set.difference e.right C)) 0 ≡ b → AllEdges (λ e. nat_eq (set.len e.right) 0 ≡ false) (kept_edge b (narrowed C e) (tree_without C es))) [
  | true ↦ λ _. rights_without C es
  | false ↦ λ some. (some, rights_without C es)
] refl

rights_filled : (T : List Edge) → AllEdges (λ e. nat_eq (set.len e.right) 0 ≡ false) T → AllEdges (λ e. IsFilled e.right) T
rights_filled = each_edge (λ e. nat_eq (set.len e.right) 0 ≡ false) (λ e. IsFilled e.right) (λ e o. filled_len e.right o)

pub rights_keyed : (L : Lens) → IsTyped L → HasKeys L → AllEdges (λ e. IsFilled e.right) (sort_of L).tree
rights_keyed (base t s) h k = each_edge (λ e. IsFilled e.left × IsFilled e.right) (λ e. IsFilled e.right) (λ e w. w.1) s.tree k.1
rights_keyed (select P L) h k = rights_keyed L h.0 k
rights_keyed (drop A X a L) h k = rights_filled _ (rights_without (one A) (sort_of L).tree)
rights_keyed (rename A B L) h k = rights_renamed A B (sort_of L).tree (rights_keyed L h.0 k)
rights_keyed (join kind A B) h k = rights_filled _ (tree_of_rights ((sort_of A).tree ++ (sort_of B).tree) (sort_of (join kind A B)).tree h.2.form)

-- a table that a definition gives
pub form_keyed : (F T : List Edge) → tree_of F ≡ is_tree T → AllEdges (λ e. IsFilled e.left) F → AllEdges (λ e. IsFilled e.left × IsFilled e.right) T
form_keyed F T is h = both_edges (λ e. IsFilled e.left) (λ e. IsFilled e.right) (λ e. IsFilled e.left × IsFilled e.right) (λ e l r. (l, r)) T
    (tree_of_lefts IsFilled F T is h) (rights_filled T (tree_of_rights F T is))

-- the sides of a join share a column
pub shared_keyed : (kind : JoinKind) (A B : Lens) → IsTyped (join kind A B) → HasKeys (join kind A B) → IsFilled (set.intersection (view_names A) (view_names B))
shared_keyed kind A B h k = let b = keyed B h.1 k.1 in decided_filled _ (view_names B) (sort_of B).tree b.1 b.0 h.2.decides

-- the key of a drop, against its source's columns and its own
pub drop_key : (A : Name) (X : Names) (a : Value) (L : Lens) → IsTyped (drop A X a L) → Within X (set.difference (view_names L) (one A))
drop_key A X a L h = grind (arith, at_edge, sound, in_rest, false_from_ne_true, absurd_false, one_is)

pub keys_are : (L : Lens) (K : List Names) → IsTyped L → HasKeys L → AreKeys (view_names L) K → AreKeys (view_names L) (keys_at L K)
keys_are L K h k a C i = elim (Contains-append_cases K (left_sides (sort_of L).tree) C i) [
  | inl j ↦ a C j
  | inr j ↦ (
    left_sides_are IsFilled (sort_of L).tree (keyed L h k).1 C j,
    left_sides_are (λ Z. Within Z (view_names L)) (sort_of L).tree (each_edge (λ e. Within e.left (view_names L) × Within e.right (view_names L)) (λ e. Within e.left (view_names L)) (λ e w. w.0) (sort_of L).tree (sound L h).within) C j,
  )
]

pub drop_keys_are : (A : Name) (X : Names) (a : Value) (L : Lens) (K : List Names) → IsTyped (drop A X a L) → HasKeys L → AreKeys (view_names (drop A X a L)) K → AreKeys (view_names L) (X ∷ K)
drop_keys_are A X a L K h k keys C i =
    let within : Within (set.difference (view_names L) (one A)) (view_names L) = λ c j. (from_rest (view_names L) (one A) c j).0 in
    elim (contains_cases C X K i) [
      | inl is ↦ subst (λ Z. IsFilled Z × Within Z (view_names L)) (sym is) (
        subst IsFilled h.1.left (at_edge (λ e. IsFilled e.left) (sort_of L).tree h.1.from h.1.among (keyed L h.0 k).1),
        λ c j. within c (drop_key A X a L h c j),
      )
      | inr j ↦ let u = keys C j in (u.0, λ c l. within c (ap (λ S. set.contains S c) (sym (names-without (sort_of L).columns A)) ∙ u.1 c l))
    ]

-- sets of the view are sets of the source under the old name
pub renamed_keys_are : (A B : Name) (L : Lens) (K : List Names) → IsTyped (rename A B L) → AreKeys (view_names (rename A B L)) K → AreKeys (view_names L) (map (renamed_names B A) K)
renamed_keys_are A B L K h keys C i =
    let s = sort_of L in
    let w = from_map_contains (renamed_names B A) K C i in
    let u = keys w.0 w.1 in
    subst (λ Z. IsFilled Z × Within Z (view_names L)) (sym w.2) (
      filled_renamed B A w.0 u.0,
      old_within (shape_of s) A B (rename_can A B L h) w.0 (subst (Within w.0) (names-renamed A B s.columns h.1.column h.1.free) u.1),
    )

pub part_goes_down : (S U : Names) (K : List Names) (C : Names) → Contains K C → share C U ≡ true → Contains (side_keys S U K) (set.intersection C U)
part_goes_down S U K C i s = contains_tail _ S (parts U K) (in_parts U K C i s)

handed : (L : Lens) (K : List Names) → IsTyped L → HasKeys L → AreKeys (view_names L) (keys_at L K) → HandsDown L K
handed (base t s) K h k keys = tt
handed (select P L) K h k keys = keys
handed (drop A X a L) K h k keys = drop_keys_are A X a L (keys_at (drop A X a L) K) h k keys
handed (rename A B L) K h k keys = renamed_keys_are A B L (keys_at (rename A B L) K) h keys
handed (join kind A B) K h k keys =
    let U = view_names A in let V = view_names B in let S = set.intersection U V in
    let s = shared_keyed kind A B h k in (
      side_keys_are S U (keys_at (join kind A B) K) s (λ c i. (from_shared U V c i).0),
      side_keys_are S V (keys_at (join kind A B) K) s (λ c i. (from_shared U V c i).1),
    )

pub hands_down : (L : Lens) (K : List Names) → IsTyped L → HasKeys L → AreKeys (view_names L) K → AreKeys (view_names L) (keys_at L K) × HandsDown L K
hands_down L K h k keys = let w = keys_are L K h k keys in (w, handed L K h k w)

-- a set handed down may be asked
may_be_asked : (L : Lens) (K : List Names) (C : Names) → AreKeys (view_names L) K → Contains K C → MayBeAsked L K C
may_be_asked L K C keys i = let u = keys C i in (Contains-append_left K _ C i, u.0, u.1)

reaches : (L : Lens) (K : List Names) → IsTyped L → HasKeys L → AreKeys (view_names L) (keys_at L K) → (C : Names) → Contains (keys_at L K) C → Reaches L K C
reaches (base t s) K h k keys C i = contains_map (λ C. (t, C)) (keys_at (base t s) K) C i
reaches (select P L) K h k keys C i = may_be_asked L (keys_at (select P L) K) C keys i
reaches (drop A X a L) K h k keys C i =
    let K1 = keys_at (drop A X a L) K in
    let down = drop_keys_are A X a L K1 h k keys in (
      may_be_asked L (X ∷ K1) C down (contains_tail C X K1 i),
      may_be_asked L (X ∷ K1) X down (contains_head X K1),
      subst (Within C) (names-without (sort_of L).columns A) (keys C i).1,
      drop_key A X a L h,
    )
reaches (rename A B L) K h k keys C i =
    let K1 = keys_at (rename A B L) K in
    may_be_asked L (map (renamed_names B A) K1) (renamed_names B A C) (renamed_keys_are A B L K1 h keys) (contains_map (renamed_names B A) K1 C i)
reaches (join kind A B) K h k keys C i =
    let U = view_names A in let V = view_names B in let S = set.intersection U V in
    let K1 = keys_at (join kind A B) K in
    let s = shared_keyed kind A B h k in
    let KA = side_keys S U K1 in let KB = side_keys S V K1 in
    let a = side_keys_are S U K1 s (λ c i. (from_shared U V c i).0) in
    let b = side_keys_are S V K1 s (λ c i. (from_shared U V c i).1) in
    let u = keys C i in
    let w : Within C (set.union U V) = subst (Within C) (names-both (sort_of A).columns (sort_of B).columns) u.1 in (
      λ t. may_be_asked A KA (set.intersection C U) a (part_goes_down S U K1 C i t),
      λ t. may_be_asked B KB (set.intersection C V) b (part_goes_down S V K1 C i (shares_other C U V u.0 w t)),
      may_be_asked A KA S a (contains_head S (parts U K1)),
      may_be_asked B KB S b (contains_head S (parts V K1)),
    )

pub keys_reach : (L : Lens) (K : List Names) → IsTyped L → HasKeys L → AreKeys (view_names L) K → (C : Names) → Contains (keys_at L K) C → Reaches L K C
keys_reach L K h k keys C i = reaches L K h k (keys_are L K h k keys) C i
