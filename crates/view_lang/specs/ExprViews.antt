-- What an expression of the code stands for.
use Rattle.grammar_specs.specs.Meaning.{Expr, named, select, drop, rename, join}
use Rattle.view_lang.specs.declared.expr.Expr as code
use Rattle.view_lang.specs.declared.expr.Expr.{fold-Expr}
use Rattle.view_lang.specs.declared.expr.Expr.TheOpen.{Expr-F}

-- one level, with each expression inside already seen
abbrev pub expr_step : Expr-F Expr → Expr
expr_step (Expr-F.Named n) = named n
expr_step (Expr-F.Select p e) = select p e.value
expr_step (Expr-F.Drop c by v e) = drop c by v e.value
expr_step (Expr-F.Rename c d e) = rename c d e.value
expr_step (Expr-F.Join k e f) = join k e.value f.value

-- what an expression of the code stands for
abbrev pub expr_view : code.Expr → Expr
expr_view = fold-Expr Expr expr_step
