use Rattle.std.proofs.Common.{◌≡◌, ◌∙◌, List, [], ◌∷◌, ◌++◌, refl, ap, codes}
use Rattle.plain_values.proofs.Common.{take_all, on_ok_weaker}
use Rattle.plain_values.specs.declared.value.Value.{Value}
use Rattle.grammar_specs.specs.Common.{word, open_paren, close_paren, comma, literal, literals}
use Rattle.view_lang.proofs.Printed.{adds_same, follow}
use Rattle.view_lang.proofs.Joined.{between, between_more}
use Rattle.view_lang.proofs.printing.print_one_of.Goals as goal

literals_between : (vs : List Value) → between comma (λ v. literal v ∷ []) vs ≡ literals vs
literals_between [] = refl
literals_between (v ∷ vs) = refl

pub loop-index-init : goal.loop-index-init
loop-index-init c = follow c.in_ok-name.ensures (follow c.in_ok-word.ensures c.in_ok-open.ensures)

pub loop-index-preserved : goal.loop-index-preserved
loop-index-preserved c =
    adds_same _
    (ap (λ ts. word c.args.col.now ∷ word (codes "in") ∷ open_paren ∷ ts)
    (between_more comma (λ v. literal v ∷ []) c.as_slice-value-items.result.now c.loop-index.index c.value-item.result c.loop-index-test.true c.value-item.is))
    (follow c.loop-index.invariant (follow c.in_ok-comma_between.ensures c.in_ok-literal.ensures))

pub returns : goal.returns
returns c =
    on_ok_weaker c.close.result
    (λ close. adds_same _
    (ap (λ ts. word c.args.col.now ∷ word (codes "in") ∷ open_paren ∷ (ts ++ close_paren ∷ []))
    (ap (between comma (λ v. literal v ∷ [])) (take_all c.loop-index.index c.as_slice-value-items.result.now c.loop-index-test.false ∙ c.as_slice-value-items.ensures)
    ∙ literals_between c.args.values.now))
    (follow c.loop-index.invariant close))
    c.close.ensures
