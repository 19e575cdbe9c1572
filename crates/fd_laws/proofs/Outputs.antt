-- The outputs of a tree form, and lists of dependencies that the same relations meet.
use Rattle.std.proofs.Common.{◌≡◌, true, false, List, [], ◌∷◌, sym, ap, ◌∙◌, None}
use Rattle.plain_values.specs.SortedSet as set
use Rattle.plain_values.proofs.Common.{same_bool}
use Rattle.fd_laws.proofs.Closures.{closure_is, implies_complete, witness, implied, implied_output, output_implied}
use Rattle.fd_laws.proofs.Names.{name_total, name_exact, union_left, union_right, within_trans}
use Rattle.fd_laws.proofs.TreeForms.{tree_of_is}
use Rattle.fd_laws.proofs.Trees.{each_edge}
use Rattle.lens_specs.specs.Common.{Name, Names, Within, Rows, Edge, MeetsTree, closure, outputs, tree_of, is_tree, IsClosure}
use Rattle.fd_laws.specs.Trees.{EdgesWithin}

columns_of : List Edge → Names
columns_of [] = set.empty
columns_of (e ∷ es) = set.union (set.union e.left e.right) (columns_of es)

pub within_more : (U V : Names) (T : List Edge) → Within U V → EdgesWithin U T → EdgesWithin V T
within_more U V T w = each_edge (λ e. Within e.left U × Within e.right U) (λ e. Within e.left V × Within e.right V) (λ e h. (within_trans e.left U V h.0 w, within_trans e.right U V h.1 w)) T

within_own : (T : List Edge) → EdgesWithin (columns_of T) T
unfolding columns_of
within_own [] = tt
within_own (e ∷ es) =
    let L = set.union e.left e.right in (
      (within_trans e.left L _ (union_left e.left e.right) (union_left L (columns_of es)), within_trans e.right L _ (union_right e.left e.right) (union_left L (columns_of es))),
      within_more (columns_of es) _ es (union_right L (columns_of es)) (within_own es),
    )

-- lists of dependencies that the same relations meet have the same closures
one_way : (X C D : Names) (F G : List Edge) → IsClosure X F C → IsClosure X G D → ((M : Rows) → MeetsTree M G → MeetsTree M F) → Within C D
one_way X C D F G c d same =
    -- the witness that G's closure makes over all columns there are meets G, so it meets F, and so X -> C
    let U = set.union (set.union X C) (columns_of G) in
    let wx : Within X U = within_trans X (set.union X C) U (union_left X C) (union_left (set.union X C) (columns_of G)) in
    let wc : Within C U = within_trans C (set.union X C) U (union_right X C) (union_left (set.union X C) (columns_of G)) in
    let w = implies_complete U (λ _. None) X C D G d wx wc (within_more (columns_of G) U G (union_right (set.union X C) (columns_of G)) (within_own G)) in
    w.1 (implied X C F (witness U (λ _. None) D) c (same (witness U (λ _. None) D) w.0))

pub same_closures : (X C D : Names) (F G : List Edge) → IsClosure X F C → IsClosure X G D → ((M : Rows) → MeetsTree M F → MeetsTree M G) → ((M : Rows) → MeetsTree M G → MeetsTree M F) → C ≡ D
same_closures X C D F G c d f g = set.same_set name_total name_exact C D (λ n. same_bool _ _ (one_way X C D F G c d g n) (one_way X D C G F d c f n))

-- the outputs of the tree form are the columns that the dependencies imply from elsewhere
pub outputs_are : (F T : List Edge) → tree_of F ≡ is_tree T → (A : Name)
    → (set.contains (outputs T) A ≡ true → (X : Names) × (set.contains X A ≡ false) × (set.contains (closure X F) A ≡ true))
    × ((X : Names) → set.contains X A ≡ false → set.contains (closure X F) A ≡ true → set.contains (outputs T) A ≡ true)
outputs_are F T is A =
    let w = tree_of_is F T is in
    let same : (X : Names) → closure X F ≡ closure X T = λ X. same_closures X _ _ F T (closure_is X F) (closure_is X T) (λ M. (w.1 M).0) (λ M. (w.1 M).1) in (
      λ i. let o = output_implied T A w.0 i in (o.0.left, o.2, ap (λ C. set.contains C A) (same o.0.left) ∙ o.3 (closure o.0.left T) (closure_is o.0.left T)),
      λ X o i. implied_output T A X (closure X T) (closure_is X T) (sym (ap (λ C. set.contains C A) (same X)) ∙ i) o,
    )
