-- The sort of a join, by what its parts are refused for.
use Rattle.std.proofs.Common.{List, ◌≡◌, ◌∙◌, ◌++◌, ℕ, Bool, true, false, cond, find, ap, sym, subst, refl, [], ◌∷◌, Option, Some, None, option_map, Ok}
use Rattle.plain_values.proofs.Common.{IsStrictlySortedBy}
use Rattle.lens_values.specs.Unions as unions
use Rattle.plain_values.specs.declared.join_kind.JoinKind.TheVariants.{DeleteLeft}
use Rattle.plain_values.specs.SortedSet as set
use Rattle.fd_laws.proofs.Common.{name_total, one_is}
use Rattle.lens_specs.specs.Common.{Columns, both_columns, kinds_differ, Edge, base, join_sort, tables_of, tree_or_none, Name, one, Predicate, Refusal, kind_clash, or_else, too_much, unsteady, Sort, TreeForm, tree_of, sort, join_fault, undetermined, unless_refused, join, left_side, right_side, not_determined, side_mentions_output, table_twice, form_fault, shared_table}
use Rattle.lens_specs.specs.TreeForm as form
use Rattle.lens_laws.proofs.Common.{IsSound, sound, sort_is_typed, neither, unrefused}
use Rattle.fd_tree.specs.Form.{form_of}
use Rattle.lens_types.specs.Faults.{IsRefused, fault_view, of_fault}
use Rattle.lens_types.specs.Joins.{columns_from, joined_columns, sides_fault}
use Rattle.lens_types.specs.Sorts.{sort_from, natural_join}
use Rattle.lens_types.specs.declared.fault.TypeFault.{TypeFault}
use Rattle.lens_types.proofs.Parts.{or_last, few_in_three}

-- ---- columns

made_from : (o : Option Name) (U V C : Columns) → unions.union_from o U V ≡ Ok C → columns_from o U V ≡ Ok C
unfolding both_columns
made_from None U V C e = (let is : both_columns U V ≡ C = cc in ap Ok is)
made_from (Some c) U V C e = cc

-- the columns of both that were made
pub columns_made : (U V C : Columns) → unions.union_of U V ≡ Ok C → joined_columns U V ≡ Ok C
columns_made U V C e = made_from (kinds_differ U V) U V C e

alike_from : (o : Option Name) (U V C : Columns) → columns_from o U V ≡ Ok C → (option_map kind_clash o ≡ None) × (C ≡ both_columns U V)
alike_from None U V C e = (refl, cc)
alike_from (Some c) U V C e = cc

-- ---- the tree

form_taken : (f : TreeForm) (T : List Edge) → form_of f ≡ Ok T → (form_fault f ≡ None) × (T ≡ tree_or_none f)
form_taken (form.is_tree X) T e = (refl, cc)
form_taken (form.not_tree X Y) T e = cc

-- ---- all tests in turn

regrouped : (a b c d r : Option Refusal) → or_else a (or_else b (or_else c (or_else d r))) ≡ or_else (or_else a (or_else b (or_else c d))) r
regrouped None None None d r = refl
regrouped None None (Some x) d r = refl
regrouped None (Some x) c d r = refl
regrouped (Some x) b c d r = refl

module _ (n : ℕ) (s t : Sort) (twice : Option Name) where
  abbrev clash : Option Refusal
  clash = option_map kind_clash (kinds_differ s.columns t.columns)

  abbrev unformed : Option Refusal
  unformed = form_fault (tree_of (s.tree ++ t.tree))

  abbrev excess : Option Refusal
  excess = too_much n (join_sort s t)

  -- first by the columns, then by the tree, the sides and the size
  parted : natural_join n s t twice ≡ unless_refused (or_else clash (or_else unformed (or_else (sides_fault s t twice) excess))) (join_sort s t)
  parted = ap (λ o. unless_refused (or_else clash (or_else unformed o)) (join_sort s t))
      (regrouped (option_map not_determined (undetermined s t)) (option_map (side_mentions_output left_side) (unsteady s.predicate s.tree)) (option_map (side_mentions_output right_side) (unsteady t.predicate t.tree)) (option_map table_twice twice) excess)

  module _ (C : Columns) (columns : joined_columns s.columns t.columns ≡ Ok C) where
    same_columns : (option_map kind_clash (kinds_differ s.columns t.columns) ≡ None) × (C ≡ both_columns s.columns t.columns)
    same_columns = alike_from (kinds_differ s.columns t.columns) s.columns t.columns C columns

    alike : natural_join n s t twice ≡ unless_refused (or_else unformed (or_else (sides_fault s t twice) excess)) (join_sort s t)
    alike = parted ∙ ap (λ o. unless_refused (or_else o (or_else unformed (or_else (sides_fault s t twice) excess))) (join_sort s t)) same_columns.0

    module _ (T : List Edge) (tree : form_of (tree_of (s.tree ++ t.tree)) ≡ Ok T) where
      same_tree : (form_fault (tree_of (s.tree ++ t.tree)) ≡ None) × (T ≡ tree_or_none (tree_of (s.tree ++ t.tree)))
      same_tree = form_taken (tree_of (s.tree ++ t.tree)) T tree

      formed : natural_join n s t twice ≡ unless_refused (or_else (sides_fault s t twice) excess) (join_sort s t)
      formed = alike ∙ ap (λ o. unless_refused (or_else o (or_else (sides_fault s t twice) excess)) (join_sort s t)) same_tree.0

      -- the sides are not joined
      pub sides_refused : (fault : TypeFault) → Some (fault_view fault) ≡ sides_fault s t twice → IsRefused (of_fault fault) tt (natural_join n s t twice)
      sides_refused fault wrong = (formed ∙ ap (λ o. unless_refused (or_else o excess) (join_sort s t)) (sym wrong), refl)

      module _ (P : Predicate) (none : None ≡ sides_fault s t twice) (both : P ≡ s.predicate ++ t.predicate) where
        made : sort_from C P T ≡ join_sort s t
        made = λ i. sort_from (same_columns.1 i) (both i) (same_tree.1 i)

        sized : natural_join n s t twice ≡ unless_refused (too_much n (sort_from C P T)) (sort_from C P T)
        sized = formed ∙ ap (λ o. unless_refused (or_else o excess) (join_sort s t)) (sym none) ∙ ap (λ x. unless_refused (too_much n x) x) (sym made)

        -- a limit is exceeded
        pub size_refused : (fault : TypeFault) → Some (fault_view fault) ≡ too_much n (sort_from C P T) → IsRefused (of_fault fault) tt (natural_join n s t twice)
        size_refused fault large = (sized ∙ ap (λ o. unless_refused o (sort_from C P T)) (sym large), refl)

        -- the sort is that of the parts
        pub join_taken : None ≡ too_much n (sort_from C P T) → natural_join n s t twice ≡ Ok (sort_from C P T)
        join_taken few = sized ∙ ap (λ o. unless_refused o (sort_from C P T)) (sym few)

-- ---- the sort of a join is sound

first_table : Name
first_table = []

second_table : Name
second_table = 0 ∷ []

apart : (b : Bool) → set.contains (one second_table) first_table ≡ b → b ≡ false
unfolding first_table second_table
apart true h = (let same : first_table ≡ second_table = one_is second_table first_table h in cc)
apart false h = refl

two_tables : shared_table (one first_table) (one second_table) ≡ None
unfolding IsStrictlySortedBy
two_tables =
    ap (find (set.contains (one second_table))) (set.items-from_list name_total (first_table ∷ []) (tt, tt))
    ∙ ap (λ b. cond b (Some first_table) None) (apart (set.contains (one second_table) first_table) refl)

-- what is not refused of any lenses is not of two tables
of_tables : (n : ℕ) (s t : Sort) (twice : Option Name) → join_fault n s t twice ≡ None → join_fault 3 s t (shared_table (one first_table) (one second_table)) ≡ None
of_tables n s t twice e =
    or_last (option_map kind_clash (kinds_differ s.columns t.columns)) _ _
    (or_last (form_fault (tree_of (s.tree ++ t.tree))) _ _
    (or_last (option_map not_determined (undetermined s t)) _ _
    (or_last (option_map (side_mentions_output left_side) (unsteady s.predicate s.tree)) _ _
    (or_last (option_map (side_mentions_output right_side) (unsteady t.predicate t.tree)) _ _
    (λ w. ap (λ o. or_else (option_map table_twice o) (too_much 3 (join_sort s t))) two_tables ∙ few_in_three n (join_sort s t) (neither (option_map table_twice twice) _ w).1))))) e

joined_once : (s t : Sort) → join_fault 3 s t (shared_table (one first_table) (one second_table)) ≡ None → sort (join DeleteLeft (base first_table s) (base second_table t)) ≡ Ok (join_sort s t)
unfolding sort tables_of
joined_once s t e = ap (λ o. unless_refused o (join_sort s t)) e

pub join_is_sound : (n : ℕ) (s t x : Sort) (twice : Option Name) → IsSound s → IsSound t → natural_join n s t twice ≡ Ok x → IsSound x
join_is_sound n s t x twice h k e =
    let w = unrefused (join_fault n s t twice) (join_sort s t) x e in
    let L = join DeleteLeft (base first_table s) (base second_table t) in
    let typed = sort_is_typed L (join_sort s t) (h, k) (joined_once s t (of_tables n s t twice w.0)) in
    subst IsSound w.1 (sound L typed.1)
