-- The sort of a projection, by what its parts are refused for.
use Rattle.std.proofs.Common.{List, ◌≡◌, ◌∙◌, ℕ, Bool, true, false, cond, not, [], ap, sym, subst, refl, Option, Some, None, option_map, Result, Ok, Err, if◌then◌else◌}
use Rattle.std.specs.FinMap as map
use Rattle.plain_values.specs.SortedSet as set
use Rattle.plain_values.specs.declared.value.Value.{Value}
use Rattle.lens_specs.specs.Common.{Name, Names, one, Columns, names, fits_at, least_outside, without_column, AllEdges, Edge, base, drop, drop_sort, Predicate, without_name, Refusal, unknown_column, kind_clash, or_else, when, is_column, first_mixed, too_much, Sort, tree_without, sort, drop_fault, is_determined, default_holds, unless_refused, no_such_dependency, mixed_conjunct, default_refused}
use Rattle.lens_laws.proofs.Common.{IsTyped, IsSound, sound, sort_is_typed, unrefused}
use Rattle.lens_types.specs.Drops.{column_fault, unfilled, unfilled_from}
use Rattle.lens_types.specs.Faults.{IsRefused, fault_view, of_fault}
use Rattle.lens_types.specs.Sorts.{sort_from, projection}
use Rattle.lens_types.specs.declared.fault.Refused.{Refused}
use Rattle.lens_types.specs.declared.fault.Refused.TheVariants as refused
use Rattle.lens_types.specs.declared.fault.TypeFault.{TypeFault}
use Rattle.lens_types.proofs.Parts.{or_last, few_in_two}

regrouped : (a b c d r : Option Refusal) → or_else a (or_else b (or_else c (or_else d r))) ≡ or_else (or_else a (or_else b (or_else c d))) r
regrouped None None None d r = refl
regrouped None None (Some x) d r = refl
regrouped None (Some x) c d r = refl
regrouped (Some x) b c d r = refl

-- first by the columns and the tree, then by the predicate and the size
parted : (n : ℕ) (s : Sort) (A : Name) (X : Names) (a : Value) → drop_fault n s A X a
    ≡ or_else (column_fault s.columns s.tree A X a) (or_else (option_map mixed_conjunct (first_mixed A s.predicate)) (or_else (when (not (default_holds A a s.predicate)) default_refused) (too_much n (drop_sort s A))))
parted n s A X a = regrouped
    (when (not (is_column s.columns A)) (unknown_column A)) (option_map unknown_column (least_outside X (names s.columns)))
    (when (not (fits_at (Some a) (map.get s.columns A))) (kind_clash A)) (when (not (is_determined X A s.tree)) (no_such_dependency A)) _

pub column_refused : (n : ℕ) (s : Sort) (A : Name) (X : Names) (a : Value) (fault : TypeFault) → Some (fault_view fault) ≡ column_fault s.columns s.tree A X a
    → IsRefused (of_fault fault) tt (projection n s A X a)
column_refused n s A X a fault is =
    (ap (λ o. unless_refused o (drop_sort s A)) (parted n s A X a ∙ ap (λ o. or_else o (or_else (option_map mixed_conjunct (first_mixed A s.predicate)) (or_else (when (not (default_holds A a s.predicate)) default_refused) (too_much n (drop_sort s A))))) (sym is)), refl)

-- what was found of the parts says that the column may be dropped
pub no_fault : (U V : Columns) (T W : List Edge) (A : Name) (X : Names) (a : Value) (o : Option TypeFault) → option_map fault_view o ≡ column_fault U T A X a → o ≡ None → U ≡ V → T ≡ W
    → None ≡ column_fault V W A X a
no_fault U V T W A X a o found none u t = ap (option_map fault_view) (sym none) ∙ found ∙ ap (λ C. column_fault C T A X a) u ∙ ap (λ F. column_fault V F A X a) t

-- what is left to be refused of a column that may be dropped
filled : (n : ℕ) (s : Sort) (A : Name) (X : Names) (a : Value) → None ≡ column_fault s.columns s.tree A X a → projection n s A X a
    ≡ unless_refused (or_else (option_map mixed_conjunct (first_mixed A s.predicate)) (or_else (when (not (default_holds A a s.predicate)) default_refused) (too_much n (drop_sort s A)))) (drop_sort s A)
filled n s A X a none =
    ap (λ o. unless_refused o (drop_sort s A)) (parted n s A X a ∙ ap (λ o. or_else o (or_else (option_map mixed_conjunct (first_mixed A s.predicate)) (or_else (when (not (default_holds A a s.predicate)) default_refused) (too_much n (drop_sort s A))))) (sym none))

-- the sort of a projection, or why it is refused, by what is left of the predicate
with_rest : (n : ℕ) (s : Sort) (A : Name) → Result Predicate Refusal → Result Sort Refusal
with_rest n s A r = elim r as (λ _. Result Sort Refusal) [ Ok Q ↦ unless_refused (too_much n (drop_sort s A)) (drop_sort s A) | Err why ↦ Err why ]

by_rest : (n : ℕ) (s : Sort) (A : Name) (a : Value) (o : Option ℕ) (b : Bool)
    → unless_refused (or_else (option_map mixed_conjunct o) (or_else (when (not b) default_refused) (too_much n (drop_sort s A)))) (drop_sort s A)
    ≡ with_rest n s A (elim o as (λ _. Result Predicate Refusal) [ Some i ↦ Err (mixed_conjunct i) | None ↦ cond b (Ok (without_name A s.predicate)) (Err default_refused) ])
unfolding with_rest
by_rest n s A a (Some i) b = refl
by_rest n s A a None true = refl
by_rest n s A a None false = refl

unfilled_is : (A : Name) (a : Value) (P : Predicate) (o : Option ℕ)
    → unfilled_from o A a P ≡ elim o as (λ _. Result Predicate Refusal) [ Some i ↦ Err (mixed_conjunct i) | None ↦ cond (default_holds A a P) (Ok (without_name A P)) (Err default_refused) ]
unfilled_is A a P (Some i) = refl
unfilled_is A a P None = refl

projected : (n : ℕ) (s : Sort) (A : Name) (X : Names) (a : Value) → None ≡ column_fault s.columns s.tree A X a → projection n s A X a ≡ with_rest n s A (unfilled A a s.predicate)
projected n s A X a none = filled n s A X a none ∙ by_rest n s A a (first_mixed A s.predicate) (default_holds A a s.predicate) ∙ ap (with_rest n s A) (sym (unfilled_is A a s.predicate (first_mixed A s.predicate)))

-- the predicate is refused
pub rest_refused : (n : ℕ) (s : Sort) (A : Name) (X : Names) (a : Value) (why : Refused (Unit {0})) → None ≡ column_fault s.columns s.tree A X a
    → IsRefused why tt (unfilled A a s.predicate) → IsRefused why tt (projection n s A X a)
unfolding with_rest
rest_refused n s A X a (refused.Rule fault back) none e = (projected n s A X a none ∙ ap (with_rest n s A) e.0, e.1)
rest_refused n s A X a refused.NoMemory none e = tt

rest_is : (A : Name) (a : Value) (P Q : Predicate) (o : Option ℕ) → unfilled_from o A a P ≡ Ok Q → Q ≡ without_name A P
rest_is A a P Q (Some i) e = cc
rest_is A a P Q None e = by_test (default_holds A a P) e
  where
    by_test : (b : Bool) → ◌≡◌ {A = Result Predicate Refusal} (if b then Ok (without_name A P) else Err default_refused) (Ok Q) → Q ≡ without_name A P
    by_test true e = cc
    by_test false e = cc

-- nothing but the size may be refused
sized : (n : ℕ) (s : Sort) (A : Name) (X : Names) (a : Value) (U : Columns) (Q : Predicate) → None ≡ column_fault s.columns s.tree A X a → unfilled A a s.predicate ≡ Ok Q → U ≡ without_column s.columns A
    → projection n s A X a ≡ unless_refused (too_much n (sort_from U Q (tree_without (one A) s.tree))) (sort_from U Q (tree_without (one A) s.tree))
unfolding with_rest
sized n s A X a U Q none e columns =
    projected n s A X a none ∙ ap (with_rest n s A) e
    ∙ ap (λ R. unless_refused (too_much n (sort_from (without_column s.columns A) R (tree_without (one A) s.tree))) (sort_from (without_column s.columns A) R (tree_without (one A) s.tree))) (sym (rest_is A a s.predicate Q (first_mixed A s.predicate) e))
    ∙ ap (λ V. unless_refused (too_much n (sort_from V Q (tree_without (one A) s.tree))) (sort_from V Q (tree_without (one A) s.tree))) (sym columns)

pub size_refused : (n : ℕ) (s : Sort) (A : Name) (X : Names) (a : Value) (U : Columns) (Q : Predicate) (fault : TypeFault) → None ≡ column_fault s.columns s.tree A X a → unfilled A a s.predicate ≡ Ok Q → U ≡ without_column s.columns A
    → Some (fault_view fault) ≡ too_much n (sort_from U Q (tree_without (one A) s.tree)) → IsRefused (of_fault fault) tt (projection n s A X a)
size_refused n s A X a U Q fault none e columns large =
    (sized n s A X a U Q none e columns ∙ ap (λ o. unless_refused o (sort_from U Q (tree_without (one A) s.tree))) (sym large), refl)

pub projection_taken : (n : ℕ) (s : Sort) (A : Name) (X : Names) (a : Value) (U : Columns) (Q : Predicate) → None ≡ column_fault s.columns s.tree A X a → unfilled A a s.predicate ≡ Ok Q → U ≡ without_column s.columns A
    → None ≡ too_much n (sort_from U Q (tree_without (one A) s.tree)) → projection n s A X a ≡ Ok (sort_from U Q (tree_without (one A) s.tree))
projection_taken n s A X a U Q none e columns few = sized n s A X a U Q none e columns ∙ ap (λ o. unless_refused o (sort_from U Q (tree_without (one A) s.tree))) (sym few)

-- ---- the sort of a projection is sound

two_nodes : (n : ℕ) (s : Sort) (A : Name) (X : Names) (a : Value) → drop_fault n s A X a ≡ None → drop_fault 2 s A X a ≡ None
two_nodes n s A X a e =
    parted 2 s A X a ∙ or_last (column_fault s.columns s.tree A X a) _ _
    (or_last (option_map mixed_conjunct (first_mixed A s.predicate)) _ _
    (or_last (when (not (default_holds A a s.predicate)) default_refused) _ _ (few_in_two n (drop_sort s A)))) (sym (parted n s A X a) ∙ e)

projected_once : (s : Sort) (A : Name) (X : Names) (a : Value) → drop_fault 2 s A X a ≡ None → sort (drop A X a (base [] s)) ≡ Ok (drop_sort s A)
unfolding sort
projected_once s A X a e = ap (λ o. unless_refused o (drop_sort s A)) e

typed_once : (n : ℕ) (s x : Sort) (A : Name) (X : Names) (a : Value) → IsSound s → projection n s A X a ≡ Ok x → IsTyped (drop A X a (base [] s))
typed_once n s x A X a h e =
    let w = unrefused (drop_fault n s A X a) (drop_sort s A) x e in
    (sort_is_typed (drop A X a (base [] s)) (drop_sort s A) h (projected_once s A X a (two_nodes n s A X a w.0))).1

pub projection_is_sound : (n : ℕ) (s x : Sort) (A : Name) (X : Names) (a : Value) → IsSound s → projection n s A X a ≡ Ok x → IsSound x
projection_is_sound n s x A X a h e = subst IsSound (unrefused (drop_fault n s A X a) (drop_sort s A) x e).1 (sound (drop A X a (base [] s)) (typed_once n s x A X a h e))

-- no edge reads the column of a projection
pub projected_unread : (n : ℕ) (s x : Sort) (A : Name) (X : Names) (a : Value) → IsSound s → projection n s A X a ≡ Ok x → AllEdges (λ e. set.contains e.left A ≡ false) s.tree
projected_unread n s x A X a h e = (typed_once n s x A X a h e).1.lefts
