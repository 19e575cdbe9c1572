use Rattle.std.proofs.Common.{◌≡◌, ◌∙◌, List, [], ◌∷◌, ◌++◌, refl, ap}
use Rattle.plain_values.proofs.Common.{take_all, on_ok_weaker}
use Rattle.plain_values.specs.declared.value.Kind.{Kind}
use Rattle.lens_specs.specs.Common.{Name}
use Rattle.grammar_specs.specs.Common.{open_paren, close_paren, comma, column_tokens, columns_tokens}
use Rattle.view_lang.proofs.Printed.{adds_same, follow}
use Rattle.view_lang.proofs.Joined.{between, between_more}
use Rattle.view_lang.proofs.printing.print_columns.Goals as goal

columns_between : (cs : List (Name × Kind)) → between comma column_tokens cs ≡ columns_tokens cs
columns_between [] = refl
columns_between (c ∷ cs) = refl

pub loop-index-preserved : goal.loop-index-preserved
loop-index-preserved c =
    adds_same _
    (ap (λ ts. open_paren ∷ ts) (between_more comma column_tokens c.args.columns.now c.loop-index.index c.index-columns-index.result c.loop-index-test.true c.index-columns-index.is))
    (follow c.loop-index.invariant (follow c.in_ok-comma_between.ensures c.in_ok-print_column.ensures))

pub returns : goal.returns
returns c =
    on_ok_weaker c.close.result
    (λ close. adds_same _
    (ap (λ ts. open_paren ∷ (ts ++ close_paren ∷ []))
    (ap (between comma column_tokens) (take_all c.loop-index.index c.args.columns.now c.loop-index-test.false) ∙ columns_between c.args.columns.now))
    (follow c.loop-index.invariant close))
    c.close.ensures
