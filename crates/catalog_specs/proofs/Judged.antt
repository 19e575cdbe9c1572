-- What a judgement that accepts says, of a definition and of an expression.
use Rattle.std.proofs.Common.{◌≡◌, Bool, true, false, cond, List, Option, Some, None, option_map, Result, Ok, Err, refl, ap, ◌∙◌, nat_le}
use Rattle.std.specs.FinMap as finmap
use Rattle.plain_values.specs.declared.join_kind.JoinKind.{JoinKind}
use Rattle.lens_specs.specs.Common.{Name, Edge, TreeForm, is_tree, not_tree, tree_of, Sort, Refusal, unknown_column, or_else, unknown_name, unlike_kinds, too_much, tables_limit, views_limit, Columns, Predicate, Lens, select, drop, rename, tree_or_none, sort, table_sort, table_sort_with, unknown_in, unless_refused, predicate_kind, join}
use Rattle.lens_specs.specs.Refusal.{Limit}
use Rattle.grammar_specs.specs.Common.{Definition, Expr, named}
use Rattle.grammar_specs.specs.Meaning as language
use Rattle.catalog_specs.specs.Catalogue.{Catalogue, lens_of, join_of, sort_with}
use Rattle.catalog_specs.specs.Judging.{CatalogFault, table_count, view_count, unless_full, where_sorted, lens_named, where_typed, over, over_both, lens_in, where_lensed}

pub full_ok : (b : Bool) (limit : Limit) (d e : Definition) → unless_full b limit d ≡ Ok e → d ≡ e
full_ok true limit d e h = cc
full_ok false limit d e h = cc

pub sorted_ok : (r : Result Sort Refusal) (known : Catalogue) (d e : Definition) → where_sorted r known d ≡ Ok e → ((sort : Sort) × (r ≡ Ok sort)) × (d ≡ e)
sorted_ok (Ok sort) known d e h = ((sort, refl), full_ok (nat_le 64 (table_count known)) tables_limit d e h)
sorted_ok (Err first) known d e h = cc

pub lensed_ok : (r : Result Lens CatalogFault) (known : Catalogue) (d e : Definition) → where_lensed r known d ≡ Ok e → ((lens : Lens) × (r ≡ Ok lens)) × (d ≡ e)
lensed_ok (Ok lens) known d e h = ((lens, refl), full_ok (nat_le 256 (view_count known)) views_limit d e h)
lensed_ok (Err first) known d e h = cc

-- what is no refusal passes the test
pub passed : (b : Bool) (a : CatalogFault) (r : Result Definition CatalogFault) (e : Definition) → cond b (Err a) r ≡ Ok e → (b ≡ false) × (r ≡ Ok e)
passed true a r e h = cc
passed false a r e h = (refl, h)

-- the sort of a table, where it is not refused
pub formed_is : (columns : Columns) (deps : List Edge) (P : Predicate) (form : TreeForm) (t : Sort) → table_sort_with columns deps P form ≡ Ok t → t ≡ record { columns = columns; predicate = P; tree = tree_or_none form }
formed_is columns deps P (is_tree T) t e = fitted (or_else (option_map predicate_kind (unlike_kinds columns P)) (too_much 1 (record { columns = columns; predicate = P; tree = T }))) e
  where
    fitted : (o : Option Refusal) → unless_refused o (record { columns = columns; predicate = P; tree = T }) ≡ Ok t → t ≡ record { columns = columns; predicate = P; tree = T }
    fitted None h = cc
    fitted (Some r) h = cc
formed_is columns deps P (not_tree X Y) t e = cc

pub table_sort_is : (columns : Columns) (deps : List Edge) (P : Predicate) (t : Sort) → table_sort columns deps P ≡ Ok t → t ≡ sort_with columns deps P
unfolding table_sort
table_sort_is columns deps P t e = chosen (or_else (unknown_in columns deps) (option_map unknown_column (unknown_name columns P))) e
  where
    chosen : (o : Option Refusal) → elim o as (λ _. Result Sort Refusal) [ Some r ↦ Err r | None ↦ table_sort_with columns deps P (tree_of deps) ] ≡ Ok t → t ≡ sort_with columns deps P
    chosen None h = formed_is columns deps P (tree_of deps) t h
    chosen (Some r) h = cc

pub named_ok : (name : Name) (o : Option Lens) (L : Lens) → lens_named name o ≡ Ok L → o ≡ Some L
named_ok name None L h = cc
named_ok name (Some lens) L h = cc

pub typed_ok : (lens : Lens) (r : Result Sort Refusal) (L : Lens) → where_typed lens r ≡ Ok L → ((s : Sort) × (r ≡ Ok s)) × (lens ≡ L)
typed_ok lens (Ok s) L h = ((s, refl), cc)
typed_ok lens (Err first) L h = cc

-- the operand has a lens, and the node over it a sort
pub over_ok : (node : Lens → Lens) (r : Result Lens CatalogFault) (L : Lens) → over node r ≡ Ok L → (C : Lens) × (r ≡ Ok C) × ((s : Sort) × (sort (node C) ≡ Ok s)) × (node C ≡ L)
over_ok node (Err first) L h = cc
over_ok node (Ok C) L h = let w = typed_ok (node C) (sort (node C)) L h in (C, refl, w.0, w.1)

pub both_ok : (kind : JoinKind) (l r : Result Lens CatalogFault) (L : Lens) → over_both kind l r ≡ Ok L → (A : Lens) × (B : Lens) × (l ≡ Ok A) × (r ≡ Ok B) × ((s : Sort) × (sort (join kind A B) ≡ Ok s)) × (join kind A B ≡ L)
both_ok kind (Err first) r L h = cc
both_ok kind (Ok A) r L h = let w = over_ok (join kind A) r L h in (A, w.0, refl, w.1, w.2, w.3)

-- an expression that is not refused has its lens
pub lens_is : (known : Catalogue) (expr : Expr) (L : Lens) → lens_in known expr ≡ Ok L → lens_of expr known ≡ Some L
lens_is known (named name) L h = named_ok name (finmap.get known name) L h
lens_is known (language.select P of) L h =
    let w = over_ok (select P) (lens_in known of) L h in
    ap (option_map (select P)) (lens_is known of w.0 w.1) ∙ ap Some w.3
lens_is known (language.drop A X a of) L h =
    let w = over_ok (drop A X a) (lens_in known of) L h in
    ap (option_map (drop A X a)) (lens_is known of w.0 w.1) ∙ ap Some w.3
lens_is known (language.rename A B of) L h =
    let w = over_ok (rename A B) (lens_in known of) L h in
    ap (option_map (rename A B)) (lens_is known of w.0 w.1) ∙ ap Some w.3
lens_is known (language.join kind left right) L h =
    let w = both_ok kind (lens_in known left) (lens_in known right) L h in
    ap (λ o. join_of kind o (lens_of right known)) (lens_is known left w.0 w.2) ∙ ap (join_of kind (Some w.0)) (lens_is known right w.1 w.3) ∙ ap Some w.5
