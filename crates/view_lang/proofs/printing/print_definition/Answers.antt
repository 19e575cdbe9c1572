use Rattle.std.proofs.Common.{[], ◌∷◌, ◌++◌, ◌∙◌, ap, map, sym, codes, append_assoc}
use Rattle.plain_values.proofs.Common.{on_ok_weaker}
use Rattle.grammar_specs.specs.Common.{word, open_paren, close_paren, dep_written, condition_written, definition_written, columns_tokens, deps_tokens, where_tokens, written_tokens}
use Rattle.view_lang.specs.DefViews.{definition_view}
use Rattle.view_lang.proofs.Printed.{adds_same, follow}
use Rattle.view_lang.proofs.printing.print_definition.Goals as goal

pub returns-in_ok-print_deps-in-Table : goal.returns-in_ok-print_deps-in-Table
returns-in_ok-print_deps-in-Table c =
    on_ok_weaker c.print_condition.result
    (λ condition. adds_same _
    ((λ i. word (codes "table") ∷ word c.in-Table.name ∷ open_paren
    ∷ ((columns_tokens (c.pairs.ensures i) ++ close_paren ∷ []) ++ (deps_tokens (map dep_written (c.as_slice.ensures i)) ++ where_tokens (condition_written (c.conjuncts.ensures.list i)))))
    ∙ ap (λ ts. word (codes "table") ∷ word c.in-Table.name ∷ open_paren ∷ ts) (append_assoc _ (close_paren ∷ []) _)
    ∙ sym (ap (λ d. written_tokens (definition_written (definition_view d))) c.in-Table.is))
    (follow c.in_ok-word-in-Table.ensures
    (follow c.in_ok-name-in-Table.ensures (follow c.in_ok-print_columns-in-Table.ensures (follow c.in_ok-print_deps-in-Table.ensures condition)))))
    c.print_condition.ensures
