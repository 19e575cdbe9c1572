use Rattle.std.proofs.Common.{◌≡◌, ◌∙◌, ◌∷◌, ◌++◌, [], ap, sym, rules, codes}
use Rattle.plain_values.proofs.Common.{take_all, on_ok_weaker}
use Rattle.lens_specs.specs.Common.{negation}
use Rattle.grammar_specs.specs.Common.{word, open_paren, close_paren, part_of, all_parts, all_of_formula, any_alls, part_tokens, all_tokens, pred_tokens}
use Rattle.lens_pred.specs.View.{formula_view}
use Rattle.lens_pred.specs.declared.formula.Formula.{the_lemmas}
use Rattle.lens_pred.proofs.Views.{view-OneOf, view-And, view-Or}
use Rattle.view_lang.proofs.Printed.{adds_same, follow}
use Rattle.view_lang.proofs.Joined.{between, between_more, parts_between, alls_between}
use Rattle.view_lang.proofs.printing.+print_formulas.Goals as goal

pub print_part-returns-in_ok-print_all-in-And : goal.print_part-returns-in_ok-print_all-in-And
print_part-returns-in_ok-print_all-in-And t c =
    let seen = ap formula_view c.in-And.is ∙ view-And c.in-And.members in
    on_ok_weaker c.close.result
    (λ close. adds_same _
    (ap (λ fs. open_paren ∷ (all_tokens (all_parts fs) ++ close_paren ∷ [])) c.as_slice.ensures.view ∙ sym (ap (λ f. part_tokens (part_of f)) seen))
    (follow c.in_ok-open-in-And.ensures (follow c.in_ok-print_all-in-And.ensures close)))
    c.close.ensures

pub print_part-returns-in_ok-print_any-in-Or : goal.print_part-returns-in_ok-print_any-in-Or
print_part-returns-in_ok-print_any-in-Or t c =
    let seen = ap formula_view c.in-Or.is ∙ view-Or c.in-Or.members in
    on_ok_weaker c.close-in-Or.result
    (λ close. adds_same _
    (ap (λ fs. open_paren ∷ (pred_tokens (any_alls fs) ++ close_paren ∷ [])) c.as_slice-in-Or.ensures.view ∙ sym (ap (λ f. part_tokens (part_of f)) seen))
    (follow c.in_ok-open-in-Or.ensures (follow c.in_ok-print_any-in-Or.ensures close)))
    c.close-in-Or.ensures

pub print_part-returns-in-OneOf : goal.print_part-returns-in-OneOf
print_part-returns-in-OneOf t c =
    let seen = ap formula_view c.in-OneOf.is ∙ view-OneOf c.in-OneOf.col c.in-OneOf.values in
    on_ok_weaker c.print_one_of.result (λ adds. adds_same _ (sym (ap (λ f. part_tokens (part_of f)) seen)) adds) c.print_one_of.ensures

pub print_part-returns-in_ok-word-in-Not : goal.print_part-returns-in_ok-word-in-Not
print_part-returns-in_ok-word-in-Not t c =
    let seen : formula_view c.args.formula.now ≡ negation (formula_view c.in-Not.inner.value) = search (rules, the_lemmas) in
    on_ok_weaker c.print_part.result
    (λ part. adds_same _
    (ap (λ f. word (codes "not") ∷ part_tokens (part_of (formula_view f))) c.deref.ensures ∙ sym (ap (λ f. part_tokens (part_of f)) seen))
    (follow c.in_ok-word-in-Not.ensures part))
    c.print_part.ensures

pub print_all-loop-index-preserved : goal.print_all-loop-index-preserved
print_all-loop-index-preserved t c =
    adds_same _
    (between_more (word (codes "and")) (λ f. part_tokens (part_of (formula_view f))) c.args.members.now c.loop-index.index c.index-members-index.result c.loop-index-test.true c.index-members-index.is)
    (follow c.loop-index.invariant (follow c.in_ok-word_between.ensures c.in_ok-print_part.ensures))

pub print_any-loop-index-preserved : goal.print_any-loop-index-preserved
print_any-loop-index-preserved t c =
    adds_same _
    (between_more (word (codes "or")) (λ f. all_tokens (all_of_formula (formula_view f))) c.args.members.now c.loop-index.index c.index-members-index.result c.loop-index-test.true c.index-members-index.is)
    (follow c.loop-index.invariant (follow c.in_ok-word_between.ensures c.in_ok-print_disjunct.ensures))

pub print_all-returns : goal.print_all-returns
print_all-returns t c =
    adds_same _
    (ap (between (word (codes "and")) (λ f. part_tokens (part_of (formula_view f)))) (take_all c.loop-index.index c.args.members.now c.loop-index-test.false)
    ∙ parts_between c.args.members.now (sym c.is_empty.ensures ∙ c.if-is_empty.false))
    c.loop-index.invariant

pub print_any-returns : goal.print_any-returns
print_any-returns t c =
    adds_same _
    (ap (between (word (codes "or")) (λ f. all_tokens (all_of_formula (formula_view f)))) (take_all c.loop-index.index c.args.members.now c.loop-index-test.false)
    ∙ alls_between c.args.members.now (sym c.is_empty.ensures ∙ c.if-is_empty.false))
    c.loop-index.invariant
