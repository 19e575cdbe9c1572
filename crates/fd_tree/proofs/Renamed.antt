-- A tree with a new name for a column.
use Rattle.std.proofs.Common.{◌≡◌, true, false, List, [], ◌∷◌, length, refl, sym, ◌∙◌, inl, inr, arith}
use Rattle.plain_values.proofs.Common.{or_cases, true≢false, or_left, false_from_ne_true, list_any, eq_by_cmp, bytes_cmp, absurd_false}
use Rattle.plain_values.specs.SortedSet as set
use Rattle.fd_laws.proofs.Common.{name_total, name_itself, union_left, union_right, within_more, in_renamed, renamed_is_tree, EdgesWithin, IsTree}
use Rattle.lens_specs.specs.Common.{Edge, AllEdges, Name, Names, renamed, renamed_names, renamed_tree, renamed_edge}
use Rattle.fd_tree.specs.Sides.{HasLeft}

-- neither side has the name
abbrev pub Lacks : Name → Edge → Type 0
Lacks B e = (set.contains e.left B ≡ false) × (set.contains e.right B ≡ false)

-- the names of all sides
abbrev all_names : List Edge → Names
all_names [] = set.empty
all_names (e ∷ es) = set.union (set.union e.left e.right) (all_names es)

own_names : (T : List Edge) → EdgesWithin (all_names T) T
own_names [] = tt
own_names (e ∷ es) =
    let U = set.union e.left e.right in (
      (
        λ c i. union_left U (all_names es) c (union_left e.left e.right c i),
        λ c i. union_left U (all_names es) c (union_right e.left e.right c i),
      ),
      within_more (all_names es) (set.union U (all_names es)) es (union_right U (all_names es)) (own_names es),
    )

is_free : (B : Name) (T : List Edge) → AllEdges (Lacks B) T → set.contains (all_names T) B ≡ false
is_free B [] h = set.contains-empty bytes_cmp B
is_free B (e ∷ es) h = false_from_ne_true _ (λ i. elim (or_cases _ _ (sym (set.contains-union name_total (set.union e.left e.right) (all_names es) B) ∙ i)) [
  | inl j ↦ elim (or_cases _ _ (sym (set.contains-union name_total e.left e.right B) ∙ j)) [
    | inl k ↦ absurd_false _ k h.0.0
    | inr k ↦ absurd_false _ k h.0.1
  ]
  | inr j ↦ absurd_false _ j (is_free B es h.1)
])

pub tree_renamed : (A B : Name) (T : List Edge) → AllEdges (Lacks B) T → IsTree T → IsTree (renamed_tree A B T)
tree_renamed A B T h tree = renamed_is_tree A B (all_names T) (is_free B T h) T (own_names T) tree

-- ---- left sides
some_name : (ns : List Name) → (length ns ≡ 0 → ⊥) → (c : Name) × (list_any (eq_by_cmp bytes_cmp c) ns ≡ true)
some_name [] h = absurd (h refl)
some_name (n ∷ ns) h = (n, or_left _ _ (name_itself n))

no_name : (ns : List Name) (c : Name) → length ns ≡ 0 → list_any (eq_by_cmp bytes_cmp c) ns ≡ true → ⊥
no_name [] c e i = true≢false (sym i)
no_name (n ∷ ns) c e i = absurd (omega arith)

left_renamed : (A B : Name) (e : Edge) → HasLeft e → HasLeft (renamed_edge A B e)
left_renamed A B e h none =
    let w = some_name (set.items e.left) h in
    let i = in_renamed A B e.left w.0 (set.contains-items e.left w.0 ∙ w.1) in
    no_name (set.items (renamed_names A B e.left)) (renamed A B w.0) none (sym (set.contains-items (renamed_names A B e.left) (renamed A B w.0)) ∙ i)

pub lefts_renamed : (A B : Name) (T : List Edge) → AllEdges HasLeft T → AllEdges HasLeft (renamed_tree A B T)
lefts_renamed A B [] h = tt
lefts_renamed A B (e ∷ es) h = (left_renamed A B e h.0, lefts_renamed A B es h.1)
