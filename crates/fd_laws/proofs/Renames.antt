-- Names, edges and trees with a new name for a column: what was a tree is one.
use Rattle.std.proofs.Common.{◌≡◌, true, false, cond, List, [], ◌∷◌, map, sym, ap, ◌∙◌, inl, inr}
use Rattle.plain_values.proofs.Common.{cases_Bool, false_from_ne_true, eq_by_cmp, bytes_cmp, in_map, from_map, absurd_false}
use Rattle.plain_values.specs.SortedSet as set
use Rattle.fd_laws.proofs.Names.{name_total, name_itself, tied_name}
use Rattle.fd_laws.specs.Trees.{EdgesWithin, IsBefore, IsTree}
use Rattle.lens_specs.specs.Common.{Edge, AllEdges, Name, Names, Within, Disjoint, renamed, renamed_names, renamed_tree, renamed_edge}

-- ---- names
pub other_name : (c A : Name) (C : Names) → set.contains C c ≡ true → set.contains C A ≡ false → eq_by_cmp bytes_cmp c A ≡ false
other_name c A C i o = false_from_ne_true _ (λ t. absurd_false _ (ap (set.contains C) (sym (tied_name c A t)) ∙ i) o)

pub in_renamed : (A B : Name) (C : Names) (c : Name) → set.contains C c ≡ true → set.contains (renamed_names A B C) (renamed A B c) ≡ true
unfolding renamed_names
in_renamed A B C c i = set.contains-from_list name_total (map (renamed A B) (set.items C)) (renamed A B c)
    ∙ in_map (eq_by_cmp bytes_cmp) tied_name name_itself (eq_by_cmp bytes_cmp) tied_name name_itself (renamed A B) (set.items C) c (sym (set.contains-items C c) ∙ i)

pub from_renamed : (A B : Name) (C : Names) (q : Name) → set.contains (renamed_names A B C) q ≡ true → (c : Name) × (set.contains C c ≡ true) × (q ≡ renamed A B c)
unfolding renamed_names
from_renamed A B C q i =
    let w = from_map (eq_by_cmp bytes_cmp) tied_name name_itself (eq_by_cmp bytes_cmp) tied_name name_itself (renamed A B) (set.items C) q (sym (set.contains-from_list name_total (map (renamed A B) (set.items C)) q) ∙ i) in
    (w.0, set.contains-items C w.0 ∙ w.1, w.2)

pub renamed_within : (A B : Name) (X Y : Names) → Within X Y → Within (renamed_names A B X) (renamed_names A B Y)
renamed_within A B X Y w q i = let v = from_renamed A B X q i in ap (set.contains (renamed_names A B Y)) v.2 ∙ in_renamed A B Y v.0 (w v.0 v.1)

-- ---- trees: columns other than B keep apart
same_renamed : (A B c d : Name) → eq_by_cmp bytes_cmp c B ≡ false → eq_by_cmp bytes_cmp d B ≡ false → renamed A B c ≡ renamed A B d → c ≡ d
same_renamed A B c d oc od is = elim (cases_Bool (eq_by_cmp bytes_cmp c A)) [
  | inl t ↦ elim (cases_Bool (eq_by_cmp bytes_cmp d A)) [
    | inl u ↦ tied_name c A t ∙ sym (tied_name d A u)
    | inr u ↦ absurd_false _ (ap (λ z. eq_by_cmp bytes_cmp z B) (sym (ap (λ x. cond x B d) u) ∙ sym is ∙ ap (λ x. cond x B c) t) ∙ name_itself B) od
  ]
  | inr t ↦ elim (cases_Bool (eq_by_cmp bytes_cmp d A)) [
    | inl u ↦ absurd_false _ (ap (λ z. eq_by_cmp bytes_cmp z B) (sym (ap (λ x. cond x B c) t) ∙ is ∙ ap (λ x. cond x B d) u) ∙ name_itself B) oc
    | inr u ↦ sym (ap (λ x. cond x B c) t) ∙ is ∙ ap (λ x. cond x B d) u
  ]
]

module _ (A B : Name) (U : Names) (free : set.contains U B ≡ false) where
  renamed_apart : (X Y : Names) → Within X U → Within Y U → Disjoint X Y → Disjoint (renamed_names A B X) (renamed_names A B Y)
  renamed_apart X Y wx wy h q i = false_from_ne_true _ (λ j.
      let x = from_renamed A B X q i in let y = from_renamed A B Y q j in
      let is = same_renamed A B x.0 y.0 (other_name x.0 B U (wx x.0 x.1) free) (other_name y.0 B U (wy y.0 y.1) free) (sym x.2 ∙ y.2) in
      absurd_false _ (ap (set.contains Y) is ∙ y.1) (h x.0 x.1))

  abbrev In : Edge → Type 0
  In e = Within e.left U × Within e.right U

  renamed_before : (e k : Edge) → In e → In k → IsBefore e k → IsBefore (renamed_edge A B e) (renamed_edge A B k)
  renamed_before e k we wk b = record {
    lefts = renamed_apart e.left k.left we.0 wk.0 b.lefts;
    rights = renamed_apart e.right k.right we.1 wk.1 b.rights;
    reads = renamed_apart e.left k.right we.0 wk.1 b.reads;
    fits = elim b.fits [ inl p ↦ inl (renamed_apart k.left e.right wk.0 we.1 p) | inr w ↦ inr (renamed_within A B k.left e.right w) ];
  }

  all_before : (e : Edge) (T : List Edge) → In e → AllEdges In T → AllEdges (IsBefore e) T → AllEdges (IsBefore (renamed_edge A B e)) (renamed_tree A B T)
  all_before e [] we w h = tt
  all_before e (k ∷ ks) we w h = (renamed_before e k we w.0 h.0, all_before e ks we w.1 h.1)

  pub renamed_is_tree : (T : List Edge) → AllEdges In T → IsTree T → IsTree (renamed_tree A B T)
  renamed_is_tree [] w h = tt
  renamed_is_tree (e ∷ es) w h = (renamed_apart e.left e.right w.0.0 w.0.1 h.0, all_before e es w.0 w.1 h.1, renamed_is_tree es w.1 h.2)

  pub renamed_edges_within : (T : List Edge) → AllEdges In T → EdgesWithin (renamed_names A B U) (renamed_tree A B T)
  renamed_edges_within [] w = tt
  renamed_edges_within (e ∷ es) w = ((renamed_within A B e.left U w.0.0, renamed_within A B e.right U w.0.1), renamed_edges_within es w.1)
