-- Laws of revision and merge.
use Rattle.std.proofs.Common.{subst, true≢false, nat_eq, ◌≡◌, true, false, List, [], ◌∷◌, Option, Some, None, refl, sym, ap, ◌∙◌, ◌⊎◌, inl, inr, arith}
use Rattle.plain_values.proofs.Common.{cases_Bool, or_parts, or_from, false_from_ne_true, absurd_false, Row}
use Rattle.plain_values.specs.SortedSet as set
use Rattle.fd_laws.proofs.Names.{name_total, one_is, in_rest, apart_rest, rest_apart, none_of_len}
use Rattle.fd_laws.proofs.Relations.{in_union_left, in_union_right, from_union, in_image, from_image, first_some, first_none}
use Rattle.fd_laws.proofs.Rows.{at-paste_in, same_row, agree_at, agree_from, agree_itself, agree_back, agree_on, agree_within, agree-paste, at-paste_out, paste_same}
use Rattle.lens_specs.specs.Common.{one, Name, Names, Disjoint, at, agree, paste, Rows, has, first_row, kept_edge, tree_without, outputs, Edge, Meets, AllEdges, MeetsTree, along, revise_row, revise, merge, narrowed, moved}
use Rattle.fd_laws.specs.Trees.{Among, IsBefore, IsTree}

pub paste_alike : (r : Row) (Y : Names) (a b : Row) → agree Y a b ≡ true → paste r Y a ≡ paste r Y b
paste_alike r Y a b g = same_row _ _ (λ c. elim (cases_Bool (set.contains Y c)) [
  | inl i ↦ at-paste_in r Y a c i ∙ agree_at Y a b g c i ∙ sym (at-paste_in r Y b c i)
  | inr o ↦ at-paste_out r Y a c o ∙ sym (at-paste_out r Y b c o)
])

pub both_edges : (P Q R : Edge → Type 0) → ((e : Edge) → P e → Q e → R e) → (T : List Edge) → AllEdges P T → AllEdges Q T → AllEdges R T
both_edges P Q R f [] p q = tt
both_edges P Q R f (e ∷ es) p q = (f e p.0 q.0, both_edges P Q R f es p.1 q.1)

pub each_edge : (P R : Edge → Type 0) → ((e : Edge) → P e → R e) → (T : List Edge) → AllEdges P T → AllEdges R T
each_edge P R f [] p = tt
each_edge P R f (e ∷ es) p = (f e p.0, each_edge P R f es p.1)

-- a step of revision: along a row of L, or nowhere
abbrev pub Taken : Edge → Row → Rows → Row → Type 0
Taken e m L r = (l : Row) × (has L l ≡ true) × (agree e.left m l ≡ true) × (r ≡ paste m e.right l)

abbrev pub Left : Edge → Row → Rows → Row → Type 0
Left e m L r = ((l : Row) → has L l ≡ true → agree e.left m l ≡ false) × (r ≡ m)

moved_cases : (e : Edge) (m : Row) (L : Rows) (o : Option Row) → first_row (agree e.left m) L ≡ o → Taken e m L (moved o m e.right) ⊎ Left e m L (moved o m e.right)
moved_cases e m L None is = inr (first_none _ L is, refl)
moved_cases e m L (Some l) is = let w = first_some _ L l is in inl (l, w.0, w.1, refl)

pub along_cases : (e : Edge) (m : Row) (L : Rows) → Taken e m L (along e m L) ⊎ Left e m L (along e m L)
unfolding along
along_cases e m L = moved_cases e m L _ refl

-- a step writes the right side alone
pub along_keeps : (e : Edge) (m : Row) (L : Rows) (c : Name) → set.contains e.right c ≡ false → at (along e m L) c ≡ at m c
along_keeps e m L c out = elim (along_cases e m L) [
  | inl t ↦ ap (λ r. at r c) t.3 ∙ at-paste_out m e.right t.0 c out
  | inr k ↦ ap (λ r. at r c) k.1
]

outputs_none : (c : Name) → set.contains (outputs []) c ≡ false
unfolding outputs
outputs_none c = set.contains-empty _ c

outputs_out : (e : Edge) (es : List Edge) (c : Name) → set.contains (outputs (e ∷ es)) c ≡ false → (set.contains e.right c ≡ false) × (set.contains (outputs es) c ≡ false)
unfolding outputs
outputs_out e es c out = or_parts _ _ (sym (set.contains-union name_total e.right (outputs es) c) ∙ out)

-- revision changes no column outside the outputs
pub revise_keeps : (T : List Edge) (m : Row) (L : Rows) (c : Name) → set.contains (outputs T) c ≡ false → at (revise_row T m L) c ≡ at m c
unfolding revise_row
revise_keeps [] m L c out = refl
revise_keeps (e ∷ es) m L c out =
    let w = outputs_out e es c out in
    revise_keeps es (along e m L) L c w.1 ∙ along_keeps e m L c w.0

pub agree-along : (C : Names) (e : Edge) (m : Row) (L : Rows) → Disjoint C e.right → agree C (along e m L) m ≡ true
agree-along C e m L apart = agree_from C _ m (λ c i. along_keeps e m L c (apart c i))

pub agree-revise : (C : Names) (T : List Edge) (m : Row) (L : Rows) → AllEdges (λ k. Disjoint C k.right) T → agree C (revise_row T m L) m ≡ true
unfolding revise_row
agree-revise C [] m L apart = agree_itself C m
agree-revise C (e ∷ es) m L apart = agree_on C _ _ _ (agree-revise C es (along e m L) L apart.1) (agree-along C e m L apart.0)

-- at an edge a revised row is like a row of L, or no row of L is like it on the left side and it is as it was
abbrev pub Settled : Edge → Rows → Row → Row → Type 0
Settled e L m r = ((l : Row) × (has L l ≡ true) × (agree e.left r l ≡ true) × (agree e.right r l ≡ true))
    ⊎ (((l : Row) → has L l ≡ true → agree e.left r l ≡ false) × (agree e.left r m ≡ true) × (agree e.right r m ≡ true))

-- r is a row that later edges made of a step along e
settled_here : (e : Edge) (L : Rows) (m r : Row) → Disjoint e.left e.right → agree e.left r (along e m L) ≡ true → agree e.right r (along e m L) ≡ true → Settled e L m r
settled_here e L m r apart hl hr = elim (along_cases e m L) [
  | inl t ↦ inl (
    t.0,
    t.1,
    agree_on e.left _ _ _ hl (agree_on e.left _ _ _ (agree-along e.left e m L apart) t.2),
    agree_on e.right _ _ _ hr (rw t.3 (agree-paste m e.right t.0)),
  )
  | inr k ↦
      let hl' = rw k.1 at hl in
      let hr' = rw k.1 at hr in
      inr (λ l i. false_from_ne_true _ (λ a. absurd_false _ (agree_on e.left _ _ _ (agree_back e.left _ _ hl') a) (k.0 l i)), hl', hr')
]

-- what holds of a later edge from the row after a step holds of it from the row before
settled_before : (e k : Edge) (L : Rows) (m r : Row) → IsBefore e k → Settled k L (along e m L) r → Settled k L m r
settled_before e k L m r b s = elim s [
  | inl t ↦ inl t
  | inr n ↦ elim b.fits [
    | inl apart ↦ inr (n.0, agree_on k.left _ _ _ n.1 (agree-along k.left e m L apart), agree_on k.right _ _ _ n.2 (agree-along k.right e m L (λ c i. false_from_ne_true _ (λ w. absurd_false _ i (b.rights c w)))))
    | inr within ↦ elim (along_cases e m L) [
      | inl t ↦ (absurd_false _ (agree_on k.left _ _ _ n.1 (rw t.3 (agree_within k.left e.right _ _ within (agree-paste m e.right t.0)))) (n.0 t.0 t.1))
      | inr q ↦ inr (n.0, rw q.1 at n.1, rw q.1 at n.2)
    ]
  ]
]

pub settled : (T : List Edge) (L : Rows) → IsTree T → AllEdges (λ e. (m : Row) → Settled e L m (revise_row T m L)) T
unfolding revise_row
settled [] L tree = tt
settled (e ∷ es) L tree = (
  λ m. settled_here e L m _ tree.0
      (agree-revise e.left es (along e m L) L (each_edge (IsBefore e) (λ k. Disjoint e.left k.right) (λ k b. b.reads) es tree.1))
      (agree-revise e.right es (along e m L) L (each_edge (IsBefore e) (λ k. Disjoint e.right k.right) (λ k b. b.rights) es tree.1)),
  both_edges (IsBefore e) (λ k. (m : Row) → Settled k L m (revise_row es m L)) (λ k. (m : Row) → Settled k L m (revise_row es (along e m L) L))
      (λ k b s m. settled_before e k L m _ b (s (along e m L))) es tree.1 (settled es L tree.2),
)

-- a row of a merge, at an edge: like a row of L, or out of L's reach and like a row of M
abbrev pub Merged : Edge → Rows → Rows → Row → Type 0
Merged e M L r = ((l : Row) × (has L l ≡ true) × (agree e.left r l ≡ true) × (agree e.right r l ≡ true))
    ⊎ (((l : Row) → has L l ≡ true → agree e.left r l ≡ false) × (m : Row) × (has M m ≡ true) × (agree e.left r m ≡ true) × (agree e.right r m ≡ true))

merged_from : (e : Edge) (M L : Rows) (m r q : Row) → has M m ≡ true → r ≡ q → Settled e L m q → Merged e M L r
merged_from e M L m r q im is s = elim s [
  | inl t ↦ inl (t.0, t.1, rw is t.2, rw is t.3)
  | inr n ↦ inr (rw is n.0, m, im, rw is n.1, rw is n.2)
]

merged_row : (e : Edge) (T : List Edge) (M L : Rows) → ((m : Row) → Settled e L m (revise_row T m L)) → (r : Row) → has (merge T M L) r ≡ true → Merged e M L r
unfolding merge revise
merged_row e T M L s r i = elim (from_union (revise T M L) L r i) [
  | inl j ↦ let w = from_image (λ m. revise_row T m L) M r j in merged_from e M L w.0 r _ w.1 w.2 (s w.0)
  | inr j ↦ inl (r, j, agree_itself e.left r, agree_itself e.right r)
]

-- two such rows
two_merged : (e : Edge) (M L : Rows) → Meets M e.left e.right → Meets L e.left e.right → (r s : Row) → Merged e M L r → Merged e M L s → agree e.left r s ≡ true → agree e.right r s ≡ true
two_merged e M L mm ml r s hr hs a = grind (arith, agree_on, agree_back)

-- where M and L meet the tree, the merge meets it
pub merge_meets : (T : List Edge) (M L : Rows) → IsTree T → MeetsTree M T → MeetsTree L T → MeetsTree (merge T M L) T
merge_meets T M L tree mm ml =
    both_edges (λ e. (m : Row) → Settled e L m (revise_row T m L)) (λ e. Meets M e.left e.right × Meets L e.left e.right) (λ e. Meets (merge T M L) e.left e.right)
    (λ e s both r q ir iq a. two_merged e M L both.0 both.1 r q (merged_row e T M L s r ir) (merged_row e T M L s q iq) a)
    T (settled T L tree)
    (both_edges (λ e. Meets M e.left e.right) (λ e. Meets L e.left e.right) (λ e. Meets M e.left e.right × Meets L e.left e.right) (λ e p q. (p, q)) T mm ml)

-- columns apart from each right side are apart from the outputs
pub outputs_apart : (C : Names) (T : List Edge) → AllEdges (λ k. Disjoint C k.right) T → Disjoint C (outputs T)
unfolding outputs
outputs_apart C [] h c i = set.contains-empty _ c
outputs_apart C (e ∷ es) h c i = set.contains-union name_total e.right (outputs es) c ∙ or_from _ _ (h.0 c i) (outputs_apart C es h.1 c i)

out_from : (e : Edge) (es : List Edge) (c : Name) → set.contains e.right c ≡ false → set.contains (outputs es) c ≡ false → set.contains (outputs (e ∷ es)) c ≡ false
unfolding outputs
out_from e es c p q = set.contains-union name_total e.right (outputs es) c ∙ or_from _ _ p q

-- two rows of a relation that meets a tree differ outside its outputs, or not at all
pub same_by_outside : (T : List Edge) (M : Rows) (a b : Row) → IsTree T → MeetsTree M T → has M a ≡ true → has M b ≡ true
    → ((c : Name) → set.contains (outputs T) c ≡ false → at a c ≡ at b c) → (c : Name) → at a c ≡ at b c
same_by_outside [] M a b tree mm ia ib out c = out c (outputs_none c)
same_by_outside (e ∷ es) M a b tree mm ia ib out c =
    let left : agree e.left a b ≡ true = agree_from e.left a b (λ k i. out k (out_from e es k (tree.0 k i)
    (outputs_apart e.left es (each_edge (IsBefore e) (λ k. Disjoint e.left k.right) (λ k b. b.reads) es tree.1) k i))) in
    let right = mm.0 a b ia ib left in
    same_by_outside es M a b tree.2 mm.1 ia ib (λ k o. elim (cases_Bool (set.contains e.right k)) [
      | inl i ↦ agree_at e.right a b right k i
      | inr p ↦ out k (out_from e es k p o)
    ]) c

-- revision maps different rows to different rows
pub revise_distinct : (T : List Edge) (M L : Rows) (a b : Row) → IsTree T → MeetsTree M T → has M a ≡ true → has M b ≡ true → revise_row T a L ≡ revise_row T b L → a ≡ b
revise_distinct T M L a b tree mm ia ib is = same_row a b (same_by_outside T M a b tree mm ia ib
    (λ c o. sym (revise_keeps T a L c o) ∙ ap (λ r. at r c) is ∙ revise_keeps T b L c o))

-- a relation that meets a tree is not changed by revision with rows of its own
along_own : (e : Edge) (M N : Rows) (m : Row) → Meets M e.left e.right → ((n : Row) → has N n ≡ true → has M n ≡ true) → has M m ≡ true → along e m N ≡ m
along_own e M N m mm sub im = elim (along_cases e m N) [
  | inl t ↦ t.3 ∙ paste_same m e.right t.0 (mm m t.0 im (sub t.0 t.1) t.2)
  | inr k ↦ k.1
]

pub revise_own : (T : List Edge) (M N : Rows) (m : Row) → MeetsTree M T → ((n : Row) → has N n ≡ true → has M n ≡ true) → has M m ≡ true → revise_row T m N ≡ m
unfolding revise_row
revise_own [] M N m mm sub im = refl
revise_own (e ∷ es) M N m mm sub im = ap (λ r. revise_row es r N) (along_own e M N m mm.0 sub im) ∙ revise_own es M N m mm.1 sub im

-- the rows of a merge
pub from_merge : (T : List Edge) (M L : Rows) (r : Row) → has (merge T M L) r ≡ true → ((m : Row) × (has M m ≡ true) × (r ≡ revise_row T m L)) ⊎ (has L r ≡ true)
unfolding merge revise
from_merge T M L r i = elim (from_union (revise T M L) L r i) [ inl j ↦ inl (from_image (λ m. revise_row T m L) M r j) | inr j ↦ inr j ]

pub in_merge_left : (T : List Edge) (M L : Rows) (m : Row) → has M m ≡ true → has (merge T M L) (revise_row T m L) ≡ true
unfolding merge revise
in_merge_left T M L m i = in_union_left (revise T M L) L _ (in_image (λ m. revise_row T m L) M m i)

pub in_merge_right : (T : List Edge) (M L : Rows) (l : Row) → has L l ≡ true → has (merge T M L) l ≡ true
unfolding merge
in_merge_right T M L l i = in_union_right (revise T M L) L l i

-- a smaller relation meets what a greater one does
pub meets_fewer : (T : List Edge) (M N : Rows) → ((n : Row) → has N n ≡ true → has M n ≡ true) → MeetsTree M T → MeetsTree N T
meets_fewer T M N sub = each_edge (λ e. Meets M e.left e.right) (λ e. Meets N e.left e.right) (λ e mm a b ia ib. mm a b (sub a ia) (sub b ib)) T

pub in_revise : (T : List Edge) (M L : Rows) (m : Row) → has M m ≡ true → has (revise T M L) (revise_row T m L) ≡ true
unfolding revise
in_revise T M L m i = in_image (λ m. revise_row T m L) M m i

pub from_revise : (T : List Edge) (M L : Rows) (r : Row) → has (revise T M L) r ≡ true → (m : Row) × (has M m ≡ true) × (r ≡ revise_row T m L)
unfolding revise
from_revise T M L r i = from_image (λ m. revise_row T m L) M r i

pub all_edges : (P : Edge → Type 0) → ((e : Edge) → P e) → (T : List Edge) → AllEdges P T
all_edges P f [] = tt
all_edges P f (e ∷ es) = (f e, all_edges P f es)

-- ---- trees with columns taken out
pub at_edge : (P : Edge → Type 0) (T : List Edge) (e : Edge) → Among e T → AllEdges P T → P e
at_edge P [] e i h = absurd i
at_edge P (k ∷ ks) e i h = elim i [ inl is ↦ subst P (sym is) h.0 | inr j ↦ at_edge P ks e j h.1 ]

-- one edge alone writes a column
pub one_writer : (A : Name) (T : List Edge) (e : Edge) → IsTree T → Among e T → set.contains e.right A ≡ true → AllEdges (λ k. set.contains k.right A ≡ true → k.left ≡ e.left) T
one_writer A [] e tree i r = tt
one_writer A (k ∷ ks) e tree i r = elim i [
  | inl is ↦ (
    λ _. ap (λ z. z.left) (sym is),
    each_edge (IsBefore k) (λ j. set.contains j.right A ≡ true → j.left ≡ e.left)
        (λ j b w. absurd (true≢false (sym w ∙ b.rights A (ap (λ z. set.contains z.right A) (sym is) ∙ r)))) ks tree.1,
  )
  | inr j ↦ (λ w. absurd (true≢false (sym r ∙ (at_edge (IsBefore k) ks e j tree.1).rights A w)), one_writer A ks e tree.2 j r)
]

-- a tree with columns taken out, edge by edge
pub from_tree_without : (C : Names) (N : Rows) (T : List Edge) → MeetsTree N (tree_without C T) → AllEdges (λ e. Meets N e.left (set.difference e.right C)) T
unfolding tree_without
from_tree_without C N [] h = tt
from_tree_without C N (e ∷ es) h =
    elim (nat_eq (set.len (set.difference e.right C)) 0) as (λ b. nat_eq (set.len (set.difference e.right C)) 0 ≡ b → MeetsTree N (kept_edge b (narrowed C e) (tree_without C es)) → AllEdges (λ e. Meets N e.left (set.difference e.right C)) (e ∷ es)) [
      | true ↦ λ z k. (λ a b ia ib g. agree_from _ a b (λ c i. absurd (true≢false (sym i ∙ none_of_len _ c z))), from_tree_without C N es k)
      | false ↦ λ _ k. (k.0, from_tree_without C N es k.1)
    ] refl h

pub to_tree_without : (C : Names) (N : Rows) (T : List Edge) → AllEdges (λ e. Meets N e.left (set.difference e.right C)) T → MeetsTree N (tree_without C T)
unfolding tree_without
to_tree_without C N [] h = tt
to_tree_without C N (e ∷ es) h =
    elim (nat_eq (set.len (set.difference e.right C)) 0) as (λ b. MeetsTree N (kept_edge b (narrowed C e) (tree_without C es))) [
      | true ↦ to_tree_without C N es h.1
      | false ↦ (h.0, to_tree_without C N es h.1)
    ]

pub before_narrowed : (A : Name) (e k : Edge) → set.contains k.left A ≡ false → IsBefore e k → IsBefore (narrowed (one A) e) (narrowed (one A) k)
before_narrowed A e k o b = record {
  lefts = b.lefts;
  rights = apart_rest _ k.right (one A) (rest_apart k.right e.right (one A) b.rights);
  reads = apart_rest e.left k.right (one A) b.reads;
  fits = elim b.fits [
    | inl p ↦ inl (apart_rest k.left e.right (one A) p)
    | inr w ↦ inr (λ c i. in_rest e.right (one A) c (w c i) (elim (cases_Bool (set.contains (one A) c)) [
      | inl y ↦ absurd (true≢false (sym i ∙ ap (set.contains k.left) (one_is A c y) ∙ o))
      | inr z ↦ z
    ]))
  ];
}

pub all_without : (P : Edge → Type 0) (C : Names) (T : List Edge) → AllEdges (λ k. P (narrowed C k)) T → AllEdges P (tree_without C T)
unfolding tree_without
all_without P C [] h = tt
all_without P C (e ∷ es) h =
    elim (nat_eq (set.len (set.difference e.right C)) 0) as (λ b. AllEdges P (kept_edge b (narrowed C e) (tree_without C es))) [
      | true ↦ all_without P C es h.1
      | false ↦ (h.0, all_without P C es h.1)
    ]

pub is_tree_without : (A : Name) (T : List Edge) → AllEdges (λ k. set.contains k.left A ≡ false) T → IsTree T → IsTree (tree_without (one A) T)
unfolding tree_without
is_tree_without A [] o tree = tt
is_tree_without A (e ∷ es) o tree =
    let rest = is_tree_without A es o.1 tree.2 in
    elim (nat_eq (set.len (set.difference e.right (one A))) 0) as (λ b. IsTree (kept_edge b (narrowed (one A) e) (tree_without (one A) es))) [
      | true ↦ rest
      | false ↦ (
        apart_rest e.left e.right (one A) tree.0,
        all_without (IsBefore (narrowed (one A) e)) (one A) es
            (both_edges (λ k. set.contains k.left A ≡ false) (IsBefore e) (λ k. IsBefore (narrowed (one A) e) (narrowed (one A) k)) (λ k o b. before_narrowed A e k o b) es o.1 tree.1),
        rest,
      )
    ]
