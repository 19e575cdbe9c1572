-- The definition that is written for one means it.
use Rattle.std.proofs.Common.{◌≡◌, true, List, [], ◌∷◌, map, refl, ap}
use Rattle.plain_values.proofs.Common.{nat_list_cmp_total, and_parts, exact_bytes, bytes_cmp, from_entries-entries}
use Rattle.plain_values.specs.SortedSet as set
use Rattle.lens_specs.specs.Common.{Names, Edge, edge, Predicate}
use Rattle.grammar_specs.specs.Common.{is_some_list, Expr, named, Definition, table, view, predicate_of, operand_meaning, expr_meaning, dep_meaning, meaning, predicate_written, operand_of, expr_written, dep_written, definition_written, is_written_predicate, is_written_expr, is_writable}
use Rattle.grammar_specs.specs.Meaning.{select, drop, rename, join}
use Rattle.grammar_laws.proofs.PrintPreds.{some_said, condition_said}

-- the names of a set make it
names_again : (names : Names) → set.from_list (set.items names) ≡ names
names_again names = set.from_list-items nat_list_cmp_total exact_bytes names

deps_again : (F : List Edge) → map dep_meaning (map dep_written F) ≡ F
deps_again [] = refl
deps_again (e ∷ F) = λ i. edge (names_again e.left i) (names_again e.right i) ∷ deps_again F i

some_predicate : (P : Predicate) → is_some_list P ≡ true → is_written_predicate P ≡ true → predicate_of (predicate_written P) ≡ P
some_predicate [] s h = cc
some_predicate (f ∷ fs) s h = some_said f fs h

operand_said : (e : Expr) → is_written_expr e ≡ true → operand_meaning (operand_of e) ≡ e
operand_said (named n) h = refl
operand_said (select P e) h =
    let both = and_parts _ _ h in
    let P_is = and_parts _ _ both.0 in
    λ i. select (some_predicate P P_is.0 P_is.1 i) (operand_said e both.1 i)
operand_said (drop A by v e) h =
    let both = and_parts _ _ h in
    λ i. drop A (names_again by i) v (operand_said e both.1 i)
operand_said (rename A B e) h = ap (rename A B) (operand_said e (and_parts _ _ h).1)
operand_said (join k e f) h =
    let both = and_parts _ _ h in
    λ i. join k (operand_said e both.0 i) (operand_said f both.1 i)

-- with parentheses around it or without
expr_said : (e : Expr) → is_written_expr e ≡ true → expr_meaning (expr_written e) ≡ e
expr_said (named n) h = refl
expr_said other h = operand_said other h

pub definition_said : (d : Definition) → is_writable d ≡ true → meaning (definition_written d) ≡ d
definition_said (table name U F P) h =
    let condition = (and_parts _ _ h).1 in
    λ i. table name (from_entries-entries bytes_cmp nat_list_cmp_total U i) (deps_again F i) (condition_said P condition i)
definition_said (view name e) h = ap (view name) (expr_said e (and_parts _ _ h).1)
