use Rattle.std.proofs.Common.{drop, length-drop, arith, subst, ap, Some, sym, ◌∙◌}
use Rattle.plain_values.proofs.Common.{map_push}
use Rattle.grammar_laws.specs.Front.{token_in_front}
use Rattle.view_lang.specs.TokenViews.{token_view, front_of, IsFront}
use Rattle.view_lang.specs.Outcomes.{placed_view}
use Rattle.view_lang.proofs.Cuts.{IsCut, cut_none, cut_more, cut_wrong, cut_end}
use Rattle.view_lang.proofs.parsing.tokens_of.Goals as goal

pub loop-at-init : goal.loop-at-init
loop-at-init c =
    let text = c.args.text.now in
    subst (IsCut text c.behind_blanks-at.result) (sym (ap placed_view c.new-tokens.ensures.items)) (cut_none text c.behind_blanks-at.result c.behind_blanks-at.ensures)

pub returns-in_default : goal.returns-in_default
returns-in_default c =
    let text = c.args.text.now in
    let at = c.loop-at.at in
    cut_wrong text at (placed_view c.loop-at.tokens.items) c.loop-at.invariant c.loop-at-test.true (ap (front_of (drop at text)) (sym c.in_default.is) ∙ c.in_ok-token.ensures.0)

pub behind_blanks-at-requires-in-loop-at : goal.behind_blanks-at-requires-in-loop-at
behind_blanks-at-requires-in-loop-at c =
    let text = c.args.text.now in
    let at = c.loop-at.at in
    let front : IsFront token_in_front (drop at text) (Some (c.in-Some.token, c.in-Some.len)) = subst (IsFront token_in_front (drop at text)) c.in-Some.is c.in_ok-token.ensures in
    omega (arith, front.1.1, length-drop at text, c.loop-at.invariant.within)

pub loop-at-smaller : goal.loop-at-smaller
loop-at-smaller c =
    let text = c.args.text.now in
    let at = c.loop-at.at in
    let front : IsFront token_in_front (drop at text) (Some (c.in-Some.token, c.in-Some.len)) = subst (IsFront token_in_front (drop at text)) c.in-Some.is c.in_ok-token.ensures in
    omega (arith, front.1.0, c.behind_blanks-at-in-loop-at.ensures, c.loop-at-test.true)

pub loop-at-preserved : goal.loop-at-preserved
loop-at-preserved c =
    let text = c.args.text.now in
    let at = c.loop-at.at in
    let len = c.in-Some.len in
    let next = c.behind_blanks-at-in-loop-at.result in
    let before = placed_view c.loop-at.tokens.items in
    let front : IsFront token_in_front (drop at text) (Some (c.in-Some.token, len)) = subst (IsFront token_in_front (drop at text)) c.in-Some.is c.in_ok-token.ensures in
    subst (IsCut text next) (sym (ap placed_view c.in_ok-push_back.ensures.items ∙ map_push (λ p. (p.0, token_view p.1)) c.loop-at.tokens.items _))
    (cut_more text at next before (token_view c.in-Some.token) len c.loop-at.invariant front.0 front.1.0 front.1.1 c.behind_blanks-at-in-loop-at.ensures)

pub returns : goal.returns
returns c = cut_end c.args.text.now c.loop-at.at (placed_view c.loop-at.tokens.items) c.loop-at.invariant c.loop-at-test.false
