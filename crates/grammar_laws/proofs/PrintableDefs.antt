-- What is written for a definition is one, and its tokens can be printed.
use Rattle.std.proofs.Common.{◌≡◌, true, List, [], ◌∷◌, ◌++◌, map, refl, ◌∙◌, ◌&&◌, flat_map, sym, Bool}
use Rattle.std.specs.FinMap as map_of
use Rattle.plain_values.proofs.Common.{list_all, and_parts, and_from, keys_of}
use Rattle.plain_values.specs.declared.value.Kind.{Kind}
use Rattle.plain_values.specs.declared.value.Kind.TheVariants as kind
use Rattle.lens_specs.specs.Common.{Name, Columns, Edge, Predicate}
use Rattle.grammar_specs.specs.Common.{Token, word, comma, arrow, close_paren, is_free_name, Dep, expr_tokens, column_tokens, columns_tokens, dep_tokens, deps_tokens, where_tokens, written_tokens, is_dep, is_condition, is_definition, Expr, named, Definition, table, view, predicate_written, operand_of, expr_written, dep_written, condition_written, definition_written, is_written_predicate, is_written_expr, is_writable}
use Rattle.grammar_specs.specs.Written.{kind_tokens}
use Rattle.grammar_specs.specs.Meaning.{select, drop, rename, join}
use Rattle.std.proofs.lemmas.List.Folds.{list_all-map}
use Rattle.grammar_laws.proofs.PrintTokens.{are_printable, both_printable, free_name, names_printable}
use Rattle.grammar_laws.proofs.PrintColumns.{Cols, columns_distinct}
use Rattle.grammar_laws.proofs.PrintTrees.{is_good_operand, is_good_expr, pred_good, expr_good}
use Rattle.grammar_laws.proofs.PrintablePreds.{predicate_good}

-- its names are as they must be, and its tokens can be printed
pub record Good (is_one : Bool) (tokens : List Token) : Type 0 where
  pub named : is_one ≡ true
  pub spelled : are_printable tokens ≡ true

good : (is_one : Bool) (tokens : List Token) (b : Bool) → (is_one && are_printable tokens) ≡ b → b ≡ true → Good is_one tokens
good is_one tokens b e h = let both = and_parts is_one (are_printable tokens) (e ∙ h) in record { named = both.0; spelled = both.1 }

-- ---- expressions

operand_written : (e : Expr) → is_written_expr e ≡ true → is_good_operand (operand_of e) ≡ true
operand_written (named n) h = h
operand_written (select P e) h = let both = and_parts _ _ h in and_from _ _ (predicate_good P (and_parts _ _ both.0).1) (operand_written e both.1)
operand_written (drop A by v e) h = let both = and_parts _ _ h in and_from _ _ both.0 (operand_written e both.1)
operand_written (rename A B e) h = let both = and_parts _ _ h in and_from _ _ both.0 (operand_written e both.1)
operand_written (join k e f) h = let both = and_parts _ _ h in and_from _ _ (operand_written e both.0) (operand_written f both.1)

expression_written : (e : Expr) → is_written_expr e ≡ true → is_good_expr (expr_written e) ≡ true
expression_written (named n) h = h
expression_written other h = operand_written other h

-- ---- definitions

-- what stands behind a comma each time
separated_printable : {A : Type 0} (f : A → List Token) (p : A → Bool) → ((x : A) → p x ≡ true → are_printable (f x) ≡ true) → (xs : List A) → list_all p xs ≡ true → are_printable (flat_map (λ x. comma ∷ f x) xs) ≡ true
separated_printable f p each [] h = refl
separated_printable f p each (x ∷ xs) h =
    let both = and_parts _ _ h in
    both_printable (f x) (flat_map (λ y. comma ∷ f y) xs) (each x both.0) (separated_printable f p each xs both.1)

kind_printable : (c : Name × Kind) → is_free_name c.0 ≡ true → are_printable (column_tokens c) ≡ true
kind_printable c h = and_from _ _ (free_name c.0 h) (kind_spelled c.1)
  where
    kind_spelled : (k : Kind) → are_printable (kind_tokens k) ≡ true
    kind_spelled kind.Int = refl
    kind_spelled other = refl

columns_printable : (columns : Cols) → list_all is_free_name (keys_of columns) ≡ true → are_printable (columns_tokens columns) ≡ true
columns_printable [] h = refl
columns_printable (c ∷ columns) h =
    let both = and_parts _ _ h in
    both_printable (column_tokens c) (flat_map (λ d. comma ∷ column_tokens d) columns) (kind_printable c both.0) (separated_printable column_tokens (λ c. is_free_name c.0) kind_printable columns (sym (list_all-map is_free_name (λ c. c.0) columns) ∙ both.1))

dep_printable : (d : Dep) → is_dep d ≡ true → are_printable (dep_tokens d) ≡ true
dep_printable d h =
    let both = and_parts _ _ h in
    both_printable (map word d.0) (arrow ∷ map word d.1) (names_printable d.0 (and_parts _ _ both.0).1) (names_printable d.1 (and_parts _ _ both.1).1)

deps_printable : (deps : List Dep) → list_all is_dep deps ≡ true → are_printable (deps_tokens deps) ≡ true
deps_printable [] h = refl
deps_printable (d ∷ deps) h =
    let both = and_parts _ _ h in
    both_printable (dep_tokens d) (flat_map (λ e. comma ∷ dep_tokens e) deps) (dep_printable d both.0) (separated_printable dep_tokens is_dep dep_printable deps both.1)

condition_good : (P : Predicate) → is_written_predicate P ≡ true → Good (is_condition (condition_written P)) (where_tokens (condition_written P))
condition_good [] h = record { named = refl; spelled = refl }
condition_good (f ∷ fs) h = good _ _ _ (pred_good (predicate_written (f ∷ fs))) (predicate_good (f ∷ fs) h)

table_good : (name : Name) (U : Columns) (F : List Edge) (P : Predicate) → is_writable (table name U F P) ≡ true
    → Good (is_definition (definition_written (table name U F P))) (written_tokens (definition_written (table name U F P)))
table_good name U F P h =
    let all = and_parts _ _ h in
    let four = and_parts _ _ all.0 in
    let three = and_parts _ _ four.0 in
    let two = and_parts _ _ three.0 in
    let deps = list_all-map is_dep dep_written F ∙ four.1 in
    let condition = condition_good P all.1 in
    record {
      named = and_from _ _ (and_from _ _ (and_from _ _ two.0 (and_from _ _ two.1 (columns_distinct U three.1))) deps) condition.named;
      spelled =
          and_from _ _ (free_name name two.0)
          (both_printable (columns_tokens (map_of.entries U)) (close_paren ∷ (deps_tokens (map dep_written F) ++ where_tokens (condition_written P))) (columns_printable (map_of.entries U) three.1)
          (both_printable (deps_tokens (map dep_written F)) (where_tokens (condition_written P)) (deps_printable (map dep_written F) deps) condition.spelled));
    }

-- what is written for a definition that can be written is a definition, and can be printed
pub definition_good : (d : Definition) → is_writable d ≡ true → Good (is_definition (definition_written d)) (written_tokens (definition_written d))
definition_good (table name U F P) h = table_good name U F P h
definition_good (view name e) h =
    let both = and_parts _ _ h in
    let g = good _ (expr_tokens (expr_written e)) _ (expr_good (expr_written e)) (expression_written e both.1) in
    record { named = and_from _ _ both.0 g.named; spelled = and_from _ _ (free_name name both.0) g.spelled }
