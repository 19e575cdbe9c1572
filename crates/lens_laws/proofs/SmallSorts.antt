-- The sorts that the rule gives have at most 64 columns, and a table's sort has keys.
use Rattle.std.proofs.Common.{◌≡◌, true, cond, is_some, inl, inr, ap, ◌∙◌, arith, ℕ, ◌+◌, ◌-◌, ◌≤◌, not, List, refl, subst, Option, Some, None, Result, Ok, Err, nat_le}
use Rattle.plain_values.proofs.Common.{cases_Bool}
use Rattle.std.proofs.lemmas.Bool.{leb-true}
use Rattle.std.specs.FinMap as finmap
use Rattle.fd_laws.proofs.Common.{name_total}
use Rattle.lens_laws.proofs.Asked.{form_keyed}
use Rattle.lens_laws.proofs.Rules.{got, unrefused, neither, never}
use Rattle.lens_specs.specs.Common.{Columns, names, Edge, AllEdges, Lens, base, select, drop, rename, nodes_of, select_sort, drop_sort, rename_sort, join_sort, tables_of, Name, Names, Predicate, renamed_columns, Refusal, when, too_much, Sort, TreeForm, tree_of, select_fault, drop_fault, rename_fault, join_fault, sort, table_sort, table_sort_with, join, with_kind, shared_table}
use Rattle.plain_values.specs.declared.value.Value.{Value}
use Rattle.lens_laws.specs.Asked.{IsFilled, HasKeys}
use Rattle.lens_laws.specs.Work.{BasesAreSmall}

few_columns : (nodes : ℕ) (s : Sort) → too_much nodes s ≡ None → finmap.len s.columns ≤ 64
few_columns nodes s e = leb-true (finmap.len s.columns) 64 (never (nat_le (finmap.len s.columns) 64) _ (neither (when (not (nat_le (finmap.len s.columns) 64)) _) _ e).0)

select_small : (n : ℕ) (s : Sort) (P : Predicate) → select_fault n s P ≡ None → finmap.len (select_sort s P).columns ≤ 64
select_small n s P e = grind (arith, neither, few_columns)

drop_small : (n : ℕ) (s : Sort) (A : Name) (X : Names) (v : Value) → drop_fault n s A X v ≡ None → finmap.len (drop_sort s A).columns ≤ 64
drop_small n s A X v e = grind (arith, neither, few_columns)

-- a column goes, and one comes
len-renamed : (A B : Name) (U : Columns) → is_some (finmap.get U A) ≡ true → finmap.len U ≤ 64 → finmap.len (renamed_columns A B U) ≤ 64
unfolding renamed_columns with_kind
len-renamed A B U there few =
    let e : finmap.len (finmap.remove U A) ≡ finmap.len U - 1 = finmap.len-remove name_total U A ∙ ap (λ b. cond b (finmap.len U - 1) (finmap.len U)) there in
    elim (finmap.get U A) as (λ o. finmap.len (with_kind (finmap.remove U A) B o) ≤ 64) [
      | None ↦
          let f = finmap.len-remove name_total (finmap.remove U A) B in
          elim (cases_Bool (finmap.contains_key (finmap.remove U A) B)) [
            | inl t ↦ let g = f ∙ ap (λ b. cond b (finmap.len (finmap.remove U A) - 1) (finmap.len (finmap.remove U A))) t in omega arith
            | inr t ↦ let g = f ∙ ap (λ b. cond b (finmap.len (finmap.remove U A) - 1) (finmap.len (finmap.remove U A))) t in omega arith
          ]
      | Some k ↦
          let f = finmap.len-insert name_total (finmap.remove U A) B k in
          elim (cases_Bool (finmap.contains_key (finmap.remove U A) B)) [
            | inl t ↦ let g = f ∙ ap (λ b. cond b (finmap.len (finmap.remove U A)) (finmap.len (finmap.remove U A) + 1)) t in omega arith
            | inr t ↦ let g = f ∙ ap (λ b. cond b (finmap.len (finmap.remove U A)) (finmap.len (finmap.remove U A) + 1)) t in omega arith
          ]
    ]

rename_small : (n : ℕ) (s : Sort) (A B : Name) → rename_fault n s A B ≡ None → finmap.len (rename_sort s A B).columns ≤ 64
rename_small n s A B e = grind (arith, neither, len-renamed, never, few_columns)

join_small : (n : ℕ) (s t : Sort) (twice : Option Name) → join_fault n s t twice ≡ None → finmap.len (join_sort s t).columns ≤ 64
join_small n s t twice e = grind (arith, neither, few_columns)

pub sort_is_small : (L : Lens) (s : Sort) → BasesAreSmall L → sort L ≡ Ok s → finmap.len s.columns ≤ 64
unfolding sort
sort_is_small (base t k) s h e = let same : k ≡ s = cc in subst (λ z. finmap.len z.columns ≤ 64) same h
sort_is_small (select P C) s h e =
    let w = got (sort C) _ s e in
    let u = unrefused _ _ s w.2 in
    subst (λ z. finmap.len z.columns ≤ 64) u.1 (select_small (nodes_of (select P C)) w.0 P u.0)
sort_is_small (drop A X v C) s h e =
    let w = got (sort C) _ s e in
    let u = unrefused _ _ s w.2 in
    subst (λ z. finmap.len z.columns ≤ 64) u.1 (drop_small (nodes_of (drop A X v C)) w.0 A X v u.0)
sort_is_small (rename A B C) s h e =
    let w = got (sort C) _ s e in
    let u = unrefused _ _ s w.2 in
    subst (λ z. finmap.len z.columns ≤ 64) u.1 (rename_small (nodes_of (rename A B C)) w.0 A B u.0)
sort_is_small (join kind A B) s h e =
    let w = got (sort A) _ s e in
    let v = got (sort B) _ s w.2 in
    let u = unrefused _ _ s v.2 in
    subst (λ z. finmap.len z.columns ≤ 64) u.1 (join_small (nodes_of (join kind A B)) w.0 v.0 (shared_table (tables_of A) (tables_of B)) u.0)

-- ---- tables
formed : (U : Columns) (F : List Edge) (P : Predicate) (s : Sort) (t : TreeForm) → tree_of F ≡ t → IsFilled (names U) → AllEdges (λ e. IsFilled e.left) F → table_sort_with U F P t ≡ Ok s
    → (finmap.len s.columns ≤ 64) × IsFilled (names s.columns) × AllEdges (λ e. IsFilled e.left × IsFilled e.right) s.tree
formed U F P s t is c h e = grind (arith, unrefused, few_columns, neither, form_keyed)

chosen : (U : Columns) (F : List Edge) (P : Predicate) (s : Sort) (o : Option Refusal) → IsFilled (names U) → AllEdges (λ e. IsFilled e.left) F
    → elim o as (λ _. Result Sort Refusal) [ Some r ↦ Err r | None ↦ table_sort_with U F P (tree_of F) ] ≡ Ok s
    → (finmap.len s.columns ≤ 64) × IsFilled (names s.columns) × AllEdges (λ e. IsFilled e.left × IsFilled e.right) s.tree
chosen U F P s (Some r) c h e = cc
chosen U F P s None c h e = formed U F P s (tree_of F) refl c h e

pub table_has_keys : (t : Name) (U : Columns) (F : List Edge) (P : Predicate) (s : Sort) → IsFilled (names U) → AllEdges (λ e. IsFilled e.left) F → table_sort U F P ≡ Ok s → HasKeys (base t s) × BasesAreSmall (base t s)
unfolding table_sort
table_has_keys t U F P s c h e = let w = chosen U F P s _ c h e in ((w.1, w.2), w.0)
