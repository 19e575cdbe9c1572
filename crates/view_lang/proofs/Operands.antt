-- The operands that stand in parentheses.
use Rattle.std.proofs.Common.{◌≡◌, ◌∷◌, ◌++◌, [], refl, sym, subst, rules}
use Rattle.lens_specs.specs.Common.{Name}
use Rattle.grammar_specs.specs.Meaning as meaning
use Rattle.grammar_specs.specs.Common.{open_paren, close_paren, operand_of, expr_written, operand_tokens, expr_tokens}
use Rattle.view_lang.specs.ExprViews.{expr_view}
use Rattle.view_lang.specs.declared.expr.Expr.{Expr, Named, Select', Drop', Rename', Join', the_lemmas}
use Rattle.view_lang.specs.declared.expr.Expr.TheVariants.{outs-Select', outs-Drop', outs-Rename', outs-Join'}

-- as an operand it is the expression in parentheses
abbrev IsEnclosed : meaning.Expr → Type 0
IsEnclosed e = open_paren ∷ (expr_tokens (expr_written e) ++ close_paren ∷ []) ≡ operand_tokens (operand_of e)

-- every expression but a name
pub enclosed_unless_named : (e : Expr) → ((n : Name) → e ≡ Named n → ⊥) → open_paren ∷ (expr_tokens (expr_written (expr_view e)) ++ close_paren ∷ []) ≡ operand_tokens (operand_of (expr_view e))
enclosed_unless_named (Named n) other = absurd (other n refl)
enclosed_unless_named (Select' p b e) other =
    let seen : expr_view (Select' p b e) ≡ meaning.select p (expr_view e) = search (rules, the_lemmas, outs-Select') in subst IsEnclosed (sym seen) refl
enclosed_unless_named (Drop' c by v b e) other =
    let seen : expr_view (Drop' c by v b e) ≡ meaning.drop c by v (expr_view e) = search (rules, the_lemmas, outs-Drop') in subst IsEnclosed (sym seen) refl
enclosed_unless_named (Rename' c d b e) other =
    let seen : expr_view (Rename' c d b e) ≡ meaning.rename c d (expr_view e) = search (rules, the_lemmas, outs-Rename') in subst IsEnclosed (sym seen) refl
enclosed_unless_named (Join' k b e d f) other =
    let seen : expr_view (Join' k b e d f) ≡ meaning.join k (expr_view e) (expr_view f) = search (rules, the_lemmas, outs-Join') in subst IsEnclosed (sym seen) refl
