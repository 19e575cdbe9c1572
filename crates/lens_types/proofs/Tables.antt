-- The sort of a table, by what its parts are refused for.
use Rattle.std.proofs.Common.{◌≡◌, ◌∙◌, List, ap, sym, refl, ◌≢◌, Option, Some, None, option_map, Result, Ok, Err}
use Rattle.lens_specs.specs.Common.{Name, Names, Columns, Edge, Predicate, Refusal, unknown_column, or_else, unknown_name, unlike_kinds, too_much, Sort, TreeForm, tree_of, table_sort, table_sort_with, unknown_in, unless_refused}
use Rattle.lens_specs.specs.Refusal as refusal
use Rattle.lens_specs.specs.TreeForm as form
use Rattle.fd_tree.specs.Form.{form_of}
use Rattle.fd_tree.specs.declared.fault.TreeFault.{TreeFault}
use Rattle.fd_tree.specs.declared.fault.TreeFault.TheVariants as tree_fault
use Rattle.lens_pred.specs.Checked.{checked, fault_first}
use Rattle.lens_pred.specs.declared.checking.PredFault.{PredFault}
use Rattle.lens_pred.specs.declared.checking.PredFault.TheVariants as pred_fault
use Rattle.lens_types.specs.Faults.{IsRefused, fault_view, of_fault, of_tree, of_pred}
use Rattle.lens_types.specs.Sorts.{sort_from}
use Rattle.lens_types.specs.Unknown.{unknown_said}
use Rattle.lens_types.specs.declared.fault.TypeFault.{TypeFault}

-- ---- what is said of a predicate

said : (a b : Option Name) → unknown_said (fault_first a b) ≡ a
said (Some n) b = refl
said None (Some n) = refl
said None None = refl

-- the unknown name that is said is that of the predicate
pub known_said : (U : Columns) (P : Predicate) → unknown_said (checked U P) ≡ unknown_name U P
known_said U P = said (unknown_name U P) (unlike_kinds U P)

none_mapped : (o : Option Name) (f : Name → Refusal) → option_map f o ≡ None → o ≡ None
none_mapped None f e = refl
none_mapped (Some n) f e = cc

later_none : (a b : Option Refusal) → or_else a b ≡ None → b ≡ None
later_none None b e = e
later_none (Some r) b e = cc

-- what suits has no unknown name and no unlike kinds
pub passed : (a b : Option Name) → fault_first a b ≡ Ok tt → (a ≡ None) × (b ≡ None)
passed (Some n) b e = cc
passed None (Some n) e = cc
passed None None e = (refl, refl)

failed : (a b : Option Name) (fault : PredFault) → a ≡ None → fault_first a b ≡ Err fault → (n : Name) × (fault ≡ pred_fault.PredKind n) × (b ≡ Some n)
failed (Some n) b fault none e = cc
failed None (Some n) fault none e = (n, cc, refl)
failed None None fault none e = cc

-- ---- tables

-- no name in the dependencies or in the predicate is unknown
abbrev pub AllKnown : Columns → List Edge → Predicate → Type 0
AllKnown U F P = None ≡ or_else (unknown_in U F) (option_map unknown_column (unknown_name U P))

-- an unknown column is the first refusal
pub sort_unknown : (U : Columns) (F : List Edge) (P : Predicate) (r : Refusal) → Some r ≡ or_else (unknown_in U F) (option_map unknown_column (unknown_name U P)) → table_sort U F P ≡ Err r
unfolding table_sort
sort_unknown U F P r e = ap (λ o. elim o as (λ _. Result Sort Refusal) [ Some q ↦ Err q | None ↦ table_sort_with U F P (tree_of F) ]) (sym e)

sort_known : (U : Columns) (F : List Edge) (P : Predicate) → AllKnown U F P → table_sort U F P ≡ table_sort_with U F P (tree_of F)
unfolding table_sort
sort_known U F P e = ap (λ o. elim o as (λ _. Result Sort Refusal) [ Some q ↦ Err q | None ↦ table_sort_with U F P (tree_of F) ]) (sym e)

no_tree : (U : Columns) (F : List Edge) (P : Predicate) (T : TreeForm) (a b : Names) → form_of T ≡ Err (tree_fault.NotTree a b) → table_sort_with U F P T ≡ Err (refusal.not_tree a b)
no_tree U F P (form.is_tree T) a b e = cc
no_tree U F P (form.not_tree X Y) a b e = (let x : X ≡ a = cc in let y : Y ≡ b = cc in λ i. Err (refusal.not_tree (x i) (y i)))

is_no_memory : (a b : Names) → tree_fault.NotTree a b ≡ tree_fault.NoMemory → ⊥
is_no_memory a b e = cc

-- two sides that do not fit are the next
pub tree_refused : (U : Columns) (F : List Edge) (P : Predicate) (fault : TreeFault) → AllKnown U F P → (fault ≢ tree_fault.NoMemory → form_of (tree_of F) ≡ Err fault)
    → IsRefused (of_tree fault) tt (table_sort U F P)
tree_refused U F P (tree_fault.NotTree a b) known h = (sort_known U F P known ∙ no_tree U F P (tree_of F) a b (h (is_no_memory a b)), refl)
tree_refused U F P tree_fault.NoMemory known h = tt

formed : (U : Columns) (F : List Edge) (P : Predicate) (T : List Edge) (X : TreeForm) → form_of X ≡ Ok T → table_sort_with U F P X ≡ table_sort_with U F P (form.is_tree T)
formed U F P T (form.is_tree Y) e = (let same : Y ≡ T = cc in ap (λ t. table_sort_with U F P (form.is_tree t)) same)
formed U F P T (form.not_tree X Y) e = cc

kinds_refused : (U : Columns) (F : List Edge) (P : Predicate) (T : List Edge) (n : Name) → unlike_kinds U P ≡ Some n → table_sort_with U F P (form.is_tree T) ≡ Err (refusal.predicate_kind n)
kinds_refused U F P T n is = rw is refl

-- unlike kinds are the next
pub pred_refused : (U : Columns) (F : List Edge) (P : Predicate) (T : List Edge) (fault : PredFault) → AllKnown U F P → form_of (tree_of F) ≡ Ok T → checked U P ≡ Err fault
    → IsRefused (of_pred fault) tt (table_sort U F P)
pred_refused U F P T fault known is e =
    let none : unknown_name U P ≡ None = none_mapped (unknown_name U P) unknown_column (later_none (unknown_in U F) (option_map unknown_column (unknown_name U P)) (sym known)) in
    let w = failed (unknown_name U P) (unlike_kinds U P) fault none e in
    rw w.1 (sort_known U F P known ∙ formed U F P T (tree_of F) is ∙ kinds_refused U F P T w.0 w.2, refl)

-- what is left is refused for its size alone
sort_sized : (U : Columns) (F : List Edge) (P : Predicate) (T : List Edge) → AllKnown U F P → form_of (tree_of F) ≡ Ok T → checked U P ≡ Ok tt
    → table_sort U F P ≡ unless_refused (too_much 1 (sort_from U P T)) (sort_from U P T)
sort_sized U F P T known is e =
    sort_known U F P known ∙ formed U F P T (tree_of F) is ∙ rw (passed (unknown_name U P) (unlike_kinds U P) e).1 refl

-- sizes are the last
pub size_refused : (U : Columns) (F : List Edge) (P : Predicate) (T : List Edge) (fault : TypeFault) → AllKnown U F P → form_of (tree_of F) ≡ Ok T → checked U P ≡ Ok tt
    → Some (fault_view fault) ≡ too_much 1 (sort_from U P T) → IsRefused (of_fault fault) tt (table_sort U F P)
size_refused U F P T fault known is e large = (sort_sized U F P T known is e ∙ ap (λ o. unless_refused o (sort_from U P T)) (sym large), refl)

-- and where nothing is refused, this is the sort
pub sort_taken : (U : Columns) (F : List Edge) (P : Predicate) (T : List Edge) → AllKnown U F P → form_of (tree_of F) ≡ Ok T → checked U P ≡ Ok tt
    → None ≡ too_much 1 (sort_from U P T) → table_sort U F P ≡ Ok (sort_from U P T)
sort_taken U F P T known is e few = sort_sized U F P T known is e ∙ ap (λ o. unless_refused o (sort_from U P T)) (sym few)

-- what was found of the parts says that all names are known
pub all_known : (U : Columns) (F : List Edge) (P : Predicate) (suits : Result (Unit {0}) PredFault) (o : Option Name) → suits ≡ checked U P
    → option_map unknown_column o ≡ or_else (unknown_in U F) (option_map unknown_column (unknown_said suits)) → o ≡ None → AllKnown U F P
all_known U F P suits o check found none =
    ap (option_map unknown_column) (sym none) ∙ found ∙ ap (λ o. or_else (unknown_in U F) (option_map unknown_column o)) (ap unknown_said check ∙ known_said U P)
