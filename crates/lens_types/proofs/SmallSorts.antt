-- A sort that is not refused has at most 64 columns.
use Rattle.std.proofs.Common.{◌≡◌, ◌≤◌, ℕ, Bool, true, false, not, List, [], ◌++◌, refl, subst, arith, Option, Some, None, option_map, Result, Ok, Err, nat_le}
use Rattle.std.specs.FinMap as finmap
use Rattle.plain_values.proofs.Common.{nat_tests}
use Rattle.plain_values.specs.declared.value.Value.{Value}
use Rattle.lens_specs.specs.Common.{Columns, names, fits_at, kinds_differ, least_outside, Edge, base, rename, join_sort, select_sort, drop_sort, rename_sort, Name, Names, Predicate, Refusal, or_else, when, is_column, first_mixed, unsteady, unknown_name, unlike_kinds, too_much, Sort, TreeForm, tree_of, select_fault, drop_fault, rename_fault, join_fault, is_determined, default_holds, undetermined, table_sort_with, table_sort, form_fault}
use Rattle.lens_specs.specs.Refusal as refusal
use Rattle.lens_specs.specs.TreeForm as form
use Rattle.lens_types.specs.Sorts.{natural_join, selection, projection, renaming, sort_from}
use Rattle.lens_laws.proofs.SmallSorts.{sort_is_small}
use Rattle.lens_laws.proofs.Common.{neither, unrefused}
use Rattle.lens_types.proofs.Renamings.{two_nodes, renamed_once}

-- it has at most 64 columns
abbrev pub HasFewColumns : Sort → Type 0
HasFewColumns s = finmap.len s.columns ≤ 64

passed : (n : ℕ) (r : Refusal) → when (not (nat_le n 64)) r ≡ None → n ≤ 64
passed n r e = by_test (nat_le n 64) refl e
  where
    by_test : (b : Bool) → nat_le n 64 ≡ b → when (not b) r ≡ None → n ≤ 64
    by_test true is e = grind (arith, nat_tests)
    by_test false is e = cc

sized : (n : ℕ) (s : Sort) → too_much n s ≡ None → HasFewColumns s
sized n s e = passed (finmap.len s.columns) _ (neither (when (not (nat_le (finmap.len s.columns) 64)) _) _ e).0

pub selection_small : (n : ℕ) (s x : Sort) (P : Predicate) → selection n s P ≡ Ok x → HasFewColumns x
selection_small n s x P e =
    let w = unrefused (select_fault n s P) (select_sort s P) x e in
    let a = neither (option_map refusal.unknown_column (unknown_name s.columns P)) _ w.0 in
    let b = neither (option_map refusal.predicate_kind (unlike_kinds s.columns P)) _ a.1 in
    let c = neither (option_map refusal.source_mentions_output (unsteady s.predicate s.tree)) _ b.1 in
    subst HasFewColumns w.1 (sized n (select_sort s P) c.1)

pub projection_small : (n : ℕ) (s x : Sort) (A : Name) (X : Names) (a : Value) → projection n s A X a ≡ Ok x → HasFewColumns x
projection_small n s x A X v e =
    let w = unrefused (drop_fault n s A X v) (drop_sort s A) x e in
    let a = neither (when (not (is_column s.columns A)) _) _ w.0 in
    let b = neither (option_map refusal.unknown_column (least_outside X (names s.columns))) _ a.1 in
    let c = neither (when (not (fits_at (Some v) (finmap.get s.columns A))) _) _ b.1 in
    let d = neither (when (not (is_determined X A s.tree)) _) _ c.1 in
    let f = neither (option_map refusal.mixed_conjunct (first_mixed A s.predicate)) _ d.1 in
    let g = neither (when (not (default_holds A v s.predicate)) _) _ f.1 in
    subst HasFewColumns w.1 (sized n (drop_sort s A) g.1)

pub renaming_small : (n : ℕ) (s x : Sort) (A B : Name) → renaming n s A B ≡ Ok x → HasFewColumns x
renaming_small n s x A B e =
    let w = unrefused (rename_fault n s A B) (rename_sort s A B) x e in
    let a = neither (when (not (is_column s.columns A)) _) _ w.0 in
    let b = neither (too_much n s) _ a.1 in
    subst HasFewColumns w.1 (sort_is_small (rename A B (base [] s)) (rename_sort s A B) (sized n s b.0) (renamed_once s A B (two_nodes n s A B w.0)))

pub join_small : (n : ℕ) (s t x : Sort) (twice : Option Name) → natural_join n s t twice ≡ Ok x → HasFewColumns x
join_small n s t x twice e =
    let w = unrefused (join_fault n s t twice) (join_sort s t) x e in
    let a = neither (option_map refusal.kind_clash (kinds_differ s.columns t.columns)) _ w.0 in
    let b = neither (form_fault (tree_of (s.tree ++ t.tree))) _ a.1 in
    let c = neither (option_map refusal.not_determined (undetermined s t)) _ b.1 in
    let d = neither (option_map (refusal.side_mentions_output refusal.left_side) (unsteady s.predicate s.tree)) _ c.1 in
    let f = neither (option_map (refusal.side_mentions_output refusal.right_side) (unsteady t.predicate t.tree)) _ d.1 in
    let g = neither (option_map refusal.table_twice twice) _ f.1 in
    subst HasFewColumns w.1 (sized n (join_sort s t) g.1)

formed : (U : Columns) (F : List Edge) (P : Predicate) (s : Sort) (t : TreeForm) → table_sort_with U F P t ≡ Ok s → HasFewColumns s
formed U F P s (form.not_tree X Y) e = cc
formed U F P s (form.is_tree T) e =
    let t = sort_from U P T in
    let w = unrefused (or_else (option_map refusal.predicate_kind (unlike_kinds U P)) (too_much 1 t)) t s e in
    subst HasFewColumns w.1 (sized 1 t (neither (option_map refusal.predicate_kind (unlike_kinds U P)) (too_much 1 t) w.0).1)

chosen : (U : Columns) (F : List Edge) (P : Predicate) (s : Sort) (o : Option Refusal)
    → elim o as (λ _. Result Sort Refusal) [ Some r ↦ Err r | None ↦ table_sort_with U F P (tree_of F) ] ≡ Ok s → HasFewColumns s
chosen U F P s (Some r) e = cc
chosen U F P s None e = formed U F P s (tree_of F) e

pub table_small : (U : Columns) (F : List Edge) (P : Predicate) (s : Sort) → table_sort U F P ≡ Ok s → HasFewColumns s
unfolding table_sort
table_small U F P s e = chosen U F P s _ e
