use Rattle.std.proofs.Common.{◌≡◌, ◌∙◌, [], ◌∷◌, ◌++◌, map, ap, sym, rules, codes, append_assoc}
use Rattle.plain_values.proofs.Common.{on_ok_weaker}
use Rattle.plain_values.specs.SortedSet as set
use Rattle.grammar_specs.specs.Meaning.{named, select, drop, rename, join}
use Rattle.grammar_specs.specs.Common.{word, open_paren, close_paren, comma, operand_of, expr_written, predicate_written, literal, operand_tokens, expr_tokens, pred_tokens}
use Rattle.view_lang.specs.ExprViews.{expr_view}
use Rattle.view_lang.specs.declared.expr.Expr.{the_lemmas}
use Rattle.view_lang.proofs.Operands.{enclosed_unless_named}
use Rattle.view_lang.proofs.Printed.{adds_same, begun, follow}
use Rattle.view_lang.proofs.printing.+print_exprs.Goals as goal

pub print_expr-returns-in_ok-print_operand-in-Select : goal.print_expr-returns-in_ok-print_operand-in-Select
print_expr-returns-in_ok-print_operand-in-Select t c =
    let seen : expr_view c.args.expr.now ≡ select c.in-Select.pred (expr_view c.in-Select.of.value) = search (rules, the_lemmas) in
    on_ok_weaker c.print_where.result
    (λ condition. adds_same _
    ((λ i. word (codes "select") ∷ word (codes "from")
    ∷ (operand_tokens (operand_of (expr_view (c.deref.ensures i))) ++ word (codes "where") ∷ pred_tokens (predicate_written (c.conjuncts.ensures.list i))))
    ∙ sym (ap (λ e. expr_tokens (expr_written e)) seen))
    (follow c.in_ok-word-in-Select.ensures (follow c.in_ok-print_operand-in-Select.ensures condition)))
    c.print_where.ensures

pub print_operand-returns-in-Named : goal.print_operand-returns-in-Named
print_operand-returns-in-Named t c =
    let seen : expr_view c.args.expr.now ≡ named c.in-Named.name = search (rules, the_lemmas) in
    begun _ _ c.name.result c.in_ok-word.ensures (on_ok_weaker c.name.result (adds_same _ (ap (λ e. operand_tokens (operand_of e)) (sym seen))) c.name.ensures)

pub print_operand-returns-in_ok-print_expr-in_default : goal.print_operand-returns-in_ok-print_expr-in_default
print_operand-returns-in_ok-print_expr-in_default t c =
    begun _ _ c.close.result c.in_ok-word.ensures
    (on_ok_weaker c.close.result
    (λ close. adds_same _ (enclosed_unless_named c.args.expr.now (λ n e. c.in_default.not-Named n e)) (follow c.in_ok-open-in_default.ensures (follow c.in_ok-print_expr-in_default.ensures close)))
    c.close.ensures)

pub print_expr-returns-in_ok-print_determined-in-Drop : goal.print_expr-returns-in_ok-print_determined-in-Drop
print_expr-returns-in_ok-print_determined-in-Drop t c =
    let seen : expr_view c.args.expr.now ≡ drop c.in-Drop.col c.in-Drop.by c.in-Drop.fill (expr_view c.in-Drop.of.value) = search (rules, the_lemmas) in
    let value = comma ∷ literal c.in-Drop.fill ∷ close_paren ∷ [] in
    on_ok_weaker c.print_operand-in-Drop.result
    (λ operand. adds_same _
    ((λ i. word (codes "drop") ∷ word c.in-Drop.col ∷ word (codes "determined") ∷ word (codes "by") ∷ open_paren
    ∷ ((map word (c.as_slice.ensures i) ++ value) ++ word (codes "from") ∷ operand_tokens (operand_of (expr_view (c.deref-in-Drop.ensures i)))))
    ∙ ap (λ ts. word (codes "drop") ∷ word c.in-Drop.col ∷ word (codes "determined") ∷ word (codes "by") ∷ open_paren ∷ ts)
    (append_assoc (map word (set.items c.in-Drop.by)) value (word (codes "from") ∷ operand_tokens (operand_of (expr_view c.in-Drop.of.value))))
    ∙ sym (ap (λ e. expr_tokens (expr_written e)) seen))
    (follow c.in_ok-word-in-Drop.ensures (follow c.in_ok-name-in-Drop.ensures (follow c.in_ok-print_determined-in-Drop.ensures operand))))
    c.print_operand-in-Drop.ensures

pub print_expr-returns-in_ok-name-in-Rename-2 : goal.print_expr-returns-in_ok-name-in-Rename-2
print_expr-returns-in_ok-name-in-Rename-2 t c =
    let seen : expr_view c.args.expr.now ≡ rename c.in-Rename.col c.in-Rename.to (expr_view c.in-Rename.of.value) = search (rules, the_lemmas) in
    on_ok_weaker c.print_operand-in-Rename.result
    (λ operand. adds_same _
    (ap (λ e. word (codes "rename") ∷ word c.in-Rename.col ∷ word (codes "to") ∷ word c.in-Rename.to ∷ word (codes "from") ∷ operand_tokens (operand_of (expr_view e))) c.deref-in-Rename.ensures
    ∙ sym (ap (λ e. expr_tokens (expr_written e)) seen))
    (follow c.in_ok-word-in-Rename.ensures (follow c.in_ok-name-in-Rename.ensures (follow c.in_ok-word-in-Rename-2.ensures (follow c.in_ok-name-in-Rename-2.ensures operand)))))
    c.print_operand-in-Rename.ensures

pub print_expr-returns-in_ok-print_operand-in-Join : goal.print_expr-returns-in_ok-print_operand-in-Join
print_expr-returns-in_ok-print_operand-in-Join t c =
    let seen : expr_view c.args.expr.now ≡ join c.in-Join.kind (expr_view c.in-Join.left.value) (expr_view c.in-Join.right.value) = search (rules, the_lemmas) in
    on_ok_weaker c.print_operand-in-Join-2.result
    (λ right. adds_same _
    ((λ i. word (c.join_word.ensures i)
    ∷ (operand_tokens (operand_of (expr_view (c.deref-in-Join.ensures i))) ++ word (codes "with") ∷ operand_tokens (operand_of (expr_view (c.deref-in-Join-2.ensures i)))))
    ∙ sym (ap (λ e. expr_tokens (expr_written e)) seen))
    (follow c.in_ok-print_operand-in-Join.ensures right))
    c.print_operand-in-Join-2.ensures
