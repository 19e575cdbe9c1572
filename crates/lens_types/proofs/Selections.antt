-- The sort of a selection, by what its parts are refused for.
use Rattle.std.proofs.Common.{◌≡◌, ◌∙◌, ℕ, ◌++◌, ap, sym, subst, refl, [], Option, Some, None, option_map, Ok, Err}
use Rattle.lens_specs.specs.Common.{Name, base, select, select_sort, Predicate, Refusal, or_else, unknown_name, unlike_kinds, unsteady, too_much, Sort, sort, select_fault, unless_refused, source_mentions_output}
use Rattle.lens_laws.proofs.Common.{IsSound, sound, sort_is_typed, unrefused}
use Rattle.lens_pred.specs.Checked.{checked, fault_first}
use Rattle.lens_pred.specs.declared.checking.PredFault.{PredFault}
use Rattle.lens_pred.specs.declared.checking.PredFault.TheVariants as pred_fault
use Rattle.lens_types.specs.Faults.{IsRefused, fault_view, of_fault, of_pred}
use Rattle.lens_types.specs.Sorts.{sort_from, selection}
use Rattle.lens_types.specs.declared.fault.TypeFault.{TypeFault}
use Rattle.lens_types.specs.declared.fault.TypeFault.TheVariants as type_fault
use Rattle.lens_types.proofs.Parts.{or_last, few_in_two}
use Rattle.lens_types.proofs.Tables.{passed}

-- what does not suit the columns is refused first
pub pred_refused : (n : ℕ) (s : Sort) (P : Predicate) (fault : PredFault) → checked s.columns P ≡ Err fault → IsRefused (of_pred fault) tt (selection n s P)
pred_refused n s P fault e = by_names (unknown_name s.columns P) (unlike_kinds s.columns P) fault e
  where
    by_names : (a b : Option Name) (fault : PredFault) → fault_first a b ≡ Err fault
        → IsRefused (of_pred fault) tt (unless_refused (or_else (option_map Refusal.unknown_column a) (or_else (option_map Refusal.predicate_kind b) (or_else (option_map source_mentions_output (unsteady s.predicate s.tree)) (too_much n (select_sort s P))))) (select_sort s P))
    by_names (Some m) b fault e = (let is : fault ≡ pred_fault.UnknownColumn m = cc in rw is (refl, refl))
    by_names None (Some m) fault e = (let is : fault ≡ pred_fault.PredKind m = cc in rw is (refl, refl))
    by_names None None fault e = cc

-- what suits them is refused for a conjunct of the source that is not steady, and for its size
suited : (n : ℕ) (s : Sort) (P : Predicate) → checked s.columns P ≡ Ok tt
    → selection n s P ≡ unless_refused (or_else (option_map source_mentions_output (unsteady s.predicate s.tree)) (too_much n (select_sort s P))) (select_sort s P)
suited n s P e = let w = passed (unknown_name s.columns P) (unlike_kinds s.columns P) e in rw (w.0, w.1) refl

-- the source's conjuncts are steady
unmentioned : (n : ℕ) (s : Sort) (P Q : Predicate) → checked s.columns P ≡ Ok tt → None ≡ unsteady s.predicate s.tree → Q ≡ s.predicate ++ P
    → selection n s P ≡ unless_refused (too_much n (sort_from s.columns Q s.tree)) (sort_from s.columns Q s.tree)
unmentioned n s P Q e none is =
    suited n s P e ∙ ap (λ o. unless_refused (or_else (option_map source_mentions_output o) (too_much n (select_sort s P))) (select_sort s P)) (sym none)
    ∙ ap (λ R. unless_refused (too_much n (sort_from s.columns R s.tree)) (sort_from s.columns R s.tree)) (sym is)

pub size_refused : (n : ℕ) (s : Sort) (P Q : Predicate) (fault : TypeFault) → checked s.columns P ≡ Ok tt → None ≡ unsteady s.predicate s.tree → Q ≡ s.predicate ++ P
    → Some (fault_view fault) ≡ too_much n (sort_from s.columns Q s.tree) → IsRefused (of_fault fault) tt (selection n s P)
size_refused n s P Q fault e none is large = (unmentioned n s P Q e none is ∙ ap (λ o. unless_refused o (sort_from s.columns Q s.tree)) (sym large), refl)

pub selection_taken : (n : ℕ) (s : Sort) (P Q : Predicate) → checked s.columns P ≡ Ok tt → None ≡ unsteady s.predicate s.tree → Q ≡ s.predicate ++ P
    → None ≡ too_much n (sort_from s.columns Q s.tree) → selection n s P ≡ Ok (sort_from s.columns Q s.tree)
selection_taken n s P Q e none is few = unmentioned n s P Q e none is ∙ ap (λ o. unless_refused o (sort_from s.columns Q s.tree)) (sym few)

-- ---- the sort of a selection is sound

two_nodes : (n : ℕ) (s : Sort) (P : Predicate) → select_fault n s P ≡ None → select_fault 2 s P ≡ None
two_nodes n s P e =
    or_last (option_map Refusal.unknown_column (unknown_name s.columns P)) _ _
    (or_last (option_map Refusal.predicate_kind (unlike_kinds s.columns P)) _ _
    (or_last (option_map source_mentions_output (unsteady s.predicate s.tree)) _ _ (few_in_two n (select_sort s P)))) e

selected : (s : Sort) (P : Predicate) → select_fault 2 s P ≡ None → sort (select P (base [] s)) ≡ Ok (select_sort s P)
unfolding sort
selected s P e = ap (λ o. unless_refused o (select_sort s P)) e

pub selection_is_sound : (n : ℕ) (s x : Sort) (P : Predicate) → IsSound s → selection n s P ≡ Ok x → IsSound x
selection_is_sound n s x P h e =
    let w = unrefused (select_fault n s P) (select_sort s P) x e in
    let typed = sort_is_typed (select P (base [] s)) (select_sort s P) h (selected s P (two_nodes n s P w.0)) in
    subst IsSound w.1 (sound (select P (base [] s)) typed.1)
