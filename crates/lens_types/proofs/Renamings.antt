-- The sort of a rename, by what its parts are refused for.
use Rattle.std.proofs.Common.{◌≡◌, ◌∙◌, ℕ, Bool, true, false, cond, not, List, [], ◌∷◌, map, ap, sym, subst, refl, inl, inr, Option, Some, None, Ok}
use Rattle.plain_values.proofs.Common.{cases_Bool, false_from_ne_true, eq_by_cmp, bytes_cmp, absurd_false}
use Rattle.std.specs.FinMap as finmap
use Rattle.plain_values.specs.SortedSet as set
use Rattle.fd_laws.proofs.Common.{name_total, name_exact, name_itself, tied_name, each_edge}
use Rattle.lens_specs.specs.Common.{Columns, names, AllEdges, Edge, base, rename, rename_sort, Name, Within, Predicate, unknown_column, or_else, when, is_column, too_much, renamed, renamed_columns, renamed_predicate, renamed_tree, Sort, sort, rename_fault, unless_refused, column_taken}
use Rattle.lens_laws.proofs.Common.{IsTyped, IsSound, sound, sort_is_typed, neither, unrefused}
use Rattle.lens_laws.proofs.Rename.{get-renamed}
use Rattle.lens_types.specs.Faults.{IsRefused, fault_view, of_fault}
use Rattle.lens_types.specs.Sorts.{sort_from, renaming}
use Rattle.lens_types.specs.declared.fault.TypeFault.{TypeFault}
use Rattle.lens_types.proofs.Parts.{or_last, few_in_two}

-- ---- entries with a new name

swapped : (x y : Name) → eq_by_cmp bytes_cmp x y ≡ false → eq_by_cmp bytes_cmp y x ≡ false
swapped x y e = false_from_ne_true _ (λ t. absurd_false _ (ap (eq_by_cmp bytes_cmp x) (tied_name y x t) ∙ name_itself x) e)

module _ {X : Type 0} (A B : Name) where
  -- the entry with the new name
  abbrev pub entry : Name × X → Name × X
  entry e = (renamed A B e.0, e.1)

  unlike_first : (b : Bool) (x : X) (o : Option X) → cond b (Some x) o ≡ None → (b ≡ false) × (o ≡ None)
  unlike_first true x o e = cc
  unlike_first false x o e = (refl, e)

  old_one : (a b : Bool) (x : X) (o p : Option X) → cond b (Some x) (cond b o (cond a None p)) ≡ cond b (Some x) (cond a None (cond a (Some x) p))
  old_one a true x o p = refl
  old_one true false x o p = refl
  old_one false false x o p = refl

  other_one : (a b k : Bool) (x : X) (o p : Option X) → (k ≡ true → (a ≡ false) × (b ≡ false)) → cond k (Some x) (cond b o (cond a None p)) ≡ cond b o (cond a None (cond k (Some x) p))
  other_one a b true x o p h = (λ i. cond (sym (h refl).1 i) o (cond (sym (h refl).0 i) None (Some x)))
  other_one a b false x o p h = refl

  pub find-renamed : (es : List (Name × X)) → finmap.find bytes_cmp B es ≡ None → (q : Name)
      → finmap.find bytes_cmp q (map entry es) ≡ cond (eq_by_cmp bytes_cmp q B) (finmap.find bytes_cmp A es) (cond (eq_by_cmp bytes_cmp q A) None (finmap.find bytes_cmp q es))
  find-renamed [] h q = by_tests (eq_by_cmp bytes_cmp q B) (eq_by_cmp bytes_cmp q A)
    where
      by_tests : (b a : Bool) → ◌≡◌ {A = Option X} None (cond b None (cond a None None))
      by_tests true a = refl
      by_tests false true = refl
      by_tests false false = refl
  find-renamed (e ∷ es) h q =
      let free = unlike_first (eq_by_cmp bytes_cmp B e.0) e.1 (finmap.find bytes_cmp B es) h in
      let rest = find-renamed es free.1 q in
      let a = eq_by_cmp bytes_cmp q A in let b = eq_by_cmp bytes_cmp q B in
      let o = finmap.find bytes_cmp A es in let p = finmap.find bytes_cmp q es in
      elim (cases_Bool (eq_by_cmp bytes_cmp e.0 A)) [
        | inl t ↦
            let is : e.0 ≡ A = tied_name e.0 A t in
            ap (λ x. cond (eq_by_cmp bytes_cmp q (cond x B e.0)) (Some e.1) (finmap.find bytes_cmp q (map entry es))) t
            ∙ ap (cond b (Some e.1)) rest ∙ old_one a b e.1 o p
            ∙ sym (ap (λ x. cond b (cond (eq_by_cmp bytes_cmp A x) (Some e.1) o) (cond a None (cond (eq_by_cmp bytes_cmp q x) (Some e.1) p))) is
            ∙ ap (λ x. cond b (cond x (Some e.1) o) (cond a None (cond a (Some e.1) p))) (name_itself A))
        | inr f ↦
            ap (λ x. cond (eq_by_cmp bytes_cmp q (cond x B e.0)) (Some e.1) (finmap.find bytes_cmp q (map entry es))) f
            ∙ ap (cond (eq_by_cmp bytes_cmp q e.0) (Some e.1)) rest
            ∙ other_one a b (eq_by_cmp bytes_cmp q e.0) e.1 o p (λ k.
            let same : q ≡ e.0 = tied_name q e.0 k in
            (ap (λ x. eq_by_cmp bytes_cmp x A) same ∙ f, ap (λ x. eq_by_cmp bytes_cmp x B) same ∙ swapped B e.0 free.0))
            ∙ sym (ap (λ x. cond b (cond x (Some e.1) o) (cond a None (cond (eq_by_cmp bytes_cmp q e.0) (Some e.1) p))) (swapped e.0 A f))
      ]

pub columns_renamed : (A B : Name) (U : Columns) → finmap.get U B ≡ None → finmap.from_entries {R = bytes_cmp} (map (λ e. (renamed A B e.0, e.1)) (finmap.entries U)) ≡ renamed_columns A B U
columns_renamed A B U free = finmap.same_map name_total name_exact _ _ (λ q.
    finmap.get-from_entries name_total _ q ∙ find-renamed A B (finmap.entries U) (sym (finmap.get-entries U B) ∙ free) q
    ∙ (λ i. cond (eq_by_cmp bytes_cmp q B) (sym (finmap.get-entries U A) i) (cond (eq_by_cmp bytes_cmp q A) None (sym (finmap.get-entries U q) i)))
    ∙ sym (get-renamed A B U q))

-- ---- what is refused

-- the second test decides, where the first passes
pub too_much_refused : (n : ℕ) (s : Sort) (A B : Name) (fault : TypeFault) → is_column s.columns A ≡ true → Some (fault_view fault) ≡ too_much n s → Some (fault_view fault) ≡ rename_fault n s A B
too_much_refused n s A B fault column large =
    ap (λ o. or_else o (when (is_column s.columns B) (column_taken B))) large
    ∙ sym (ap (λ b. or_else (when (not b) (unknown_column A)) (or_else (too_much n s) (when (is_column s.columns B) (column_taken B)))) column)

-- and then the third
pub last_test : (n : ℕ) (s : Sort) (A B : Name) → is_column s.columns A ≡ true → None ≡ too_much n s → when (is_column s.columns B) (column_taken B) ≡ rename_fault n s A B
last_test n s A B column few =
    ap (λ o. or_else o (when (is_column s.columns B) (column_taken B))) few
    ∙ sym (ap (λ b. or_else (when (not b) (unknown_column A)) (or_else (too_much n s) (when (is_column s.columns B) (column_taken B)))) column)

pub rename_refused : (n : ℕ) (s : Sort) (A B : Name) (fault : TypeFault) → Some (fault_view fault) ≡ rename_fault n s A B → IsRefused (of_fault fault) tt (renaming n s A B)
rename_refused n s A B fault is = (ap (λ o. unless_refused o (rename_sort s A B)) (sym is), refl)

pub rename_taken : (n : ℕ) (s : Sort) (A B : Name) (U : Columns) (P : Predicate) (T : List Edge) → None ≡ rename_fault n s A B
    → U ≡ renamed_columns A B s.columns → P ≡ renamed_predicate A B s.predicate → T ≡ renamed_tree A B s.tree → renaming n s A B ≡ Ok (sort_from U P T)
rename_taken n s A B U P T none u p t = ap (λ o. unless_refused o (rename_sort s A B)) (sym none) ∙ (λ i. Ok (sort_from (sym u i) (sym p i) (sym t i)))

-- ---- the sort of a rename is sound

pub two_nodes : (n : ℕ) (s : Sort) (A B : Name) → rename_fault n s A B ≡ None → rename_fault 2 s A B ≡ None
two_nodes n s A B e =
    or_last (when (not (is_column s.columns A)) (unknown_column A)) _ _
    (λ w. let v = neither (too_much n s) _ w in ap (λ o. or_else o (when (is_column s.columns B) (column_taken B))) (few_in_two n s v.0) ∙ v.1) e

pub renamed_once : (s : Sort) (A B : Name) → rename_fault 2 s A B ≡ None → sort (rename A B (base [] s)) ≡ Ok (rename_sort s A B)
unfolding sort
renamed_once s A B e = ap (λ o. unless_refused o (rename_sort s A B)) e

typed_once : (n : ℕ) (s : Sort) (A B : Name) → IsSound s → rename_fault n s A B ≡ None → IsTyped (rename A B (base [] s))
typed_once n s A B h e = (sort_is_typed (rename A B (base [] s)) (rename_sort s A B) h (renamed_once s A B (two_nodes n s A B e))).1

pub renaming_is_sound : (n : ℕ) (s x : Sort) (A B : Name) → IsSound s → renaming n s A B ≡ Ok x → IsSound x
renaming_is_sound n s x A B h e =
    let w = unrefused (rename_fault n s A B) (rename_sort s A B) x e in
    subst IsSound w.1 (sound (rename A B (base [] s)) (typed_once n s A B h w.0))

-- no column has the new name
pub new_name : (n : ℕ) (s : Sort) (A B : Name) → IsSound s → None ≡ rename_fault n s A B → set.contains (names s.columns) B ≡ false
new_name n s A B h e = (typed_once n s A B h (sym e)).1.free

-- and no edge has it
abbrev pub Lacks : Name → Edge → Type 0
Lacks B e = (set.contains e.left B ≡ false) × (set.contains e.right B ≡ false)

pub edges_lack : (s : Sort) (B : Name) → IsSound s → set.contains (names s.columns) B ≡ false → AllEdges (Lacks B) s.tree
edges_lack s B h o = each_edge (λ e. Within e.left (names s.columns) × Within e.right (names s.columns)) (Lacks B)
    (λ e w. (false_from_ne_true _ (λ i. absurd_false _ (w.0 B i) o), false_from_ne_true _ (λ i. absurd_false _ (w.1 B i) o))) s.tree h.within
