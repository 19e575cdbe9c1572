-- The names of the grammar that most proofs cite, handed on from one place. Declares nothing.
pub use Rattle.grammar_specs.specs.Faults.{Answers, Begins, BeginsTooDeep, Fault, IsNestingFault, IsSyntaxFault, SaysFlat, Stops, columns, has_few_columns, has_few_nodes, nested, predicate, syntax_at, too_large}
pub use Rattle.grammar_specs.specs.Meaning.{Definition, Expr, all_conjuncts, condition_meaning, conjunction, conjuncts, dep_meaning, disjunction, disjuncts, expr_meaning, formulas_of, list_of, meaning, named, operand_meaning, part_meaning, pred_disjuncts, pred_meaning, predicate_of, table, view}
pub use Rattle.grammar_specs.specs.Nesting.{all_nesting, at_each, expr_nesting, is_too_deep, max_nesting, nesting, operand_nesting, part_nesting, pred_nesting, where_nesting}
pub use Rattle.grammar_specs.specs.Printing.{all_of_formula, all_parts, any_alls, closes, condition_written, definition_written, dep_written, expr_written, gap, joined_parts, more_alls, more_parts, opens, operand_of, part_of, pred_of, predicate_written, spaced, token_bytes}
pub use Rattle.grammar_specs.specs.Texts.{AreBlank, GoesWrong, IsText, NoToken, Placed, Stand, tokens_in}
pub use Rattle.grammar_specs.specs.Tokens.{AreDigits, Ends, Spells, SpellsInteger, Token, arrow, close_paren, comma, digits_value, goes_on, integer, is_blank, is_digit, is_free_name, is_quote, minus, open_paren, operator, quotes_doubled, text, word}
pub use Rattle.grammar_specs.specs.Writable.{are_free, are_in_all, are_in_any, is_conjunction, is_disjunction, is_literal, is_writable, is_written_dep, is_written_expr, is_written_formula, is_written_predicate}
pub use Rattle.grammar_specs.specs.Written.{All, Dep, Operand, Part, Pred, Written, all_tokens, alone, are_columns, are_constants, are_free_names, bare, column_tokens, columns_tokens, compares, compares_columns, dep_tokens, deps_tokens, drop, either, enclosed, expr_tokens, grouped, is_all, is_column_of, is_condition, is_definition, is_dep, is_expr, is_in, is_operand, is_part, is_pred, is_some_list, join, join_word, joined, kind_word, literal, literally, literals, negated, only, operand_tokens, part_tokens, pred_tokens, rename, select, tests_null, where_tokens, written_tokens}
