use Rattle.std.proofs.Common.{◌+◌, take, ap, sym, subst, ◌∙◌, arith, rules, IsTrue, Some, None}
use Rattle.plain_values.proofs.Common.{common_steps}
use Rattle.view_lang.specs.TokenViews.{integer_at, is_integer_text}
use Rattle.view_lang.specs.declared.parsing.token.Token.TheVariants.{Integer}
use Rattle.view_lang.proofs.Fronts.{digits_behind, integer_front, integer_text, integer_within, no_integer}
use Rattle.view_lang.proofs.parsing.lexer.integer.Goals as goal

pub overflow_add-len : goal.overflow_add-len
overflow_add-len c =
    let text = c.args.text.now in
    omega (arith, integer_within text c.requires.begins c.digit_len-len.result (digits_behind text c.digit_len-len.result c.digit_len-len.ensures))

pub number_of-requires : goal.number_of-requires
number_of-requires c =
    let text = c.args.text.now in
    subst (λ b. IsTrue (is_integer_text b)) (sym c.in_ok-text_of.ensures) (integer_text text c.requires.begins c.digit_len-len.result (digits_behind text c.digit_len-len.result c.digit_len-len.ensures))

pub returns-in_err-text_of : goal.returns-in_err-text_of
returns-in_err-text_of c =
    let text = c.args.text.now in
    absurd (no_integer (take (1 + c.digit_len-len.result) text) c.in_err-text_of.ensures (integer_text text c.requires.begins c.digit_len-len.result (digits_behind text c.digit_len-len.result c.digit_len-len.ensures)))

pub returns-in_err-number : goal.returns-in_err-number
returns-in_err-number c =
    let text = c.args.text.now in
    let e = integer_front text c.requires.begins c.requires.no_arrow c.digit_len-len.result (digits_behind text c.digit_len-len.result c.digit_len-len.ensures) None
    (c.in_err-number.ensures ∙ ap integer_at c.in_ok-text_of.ensures) in (cc, search rules)

pub returns : goal.returns
returns c =
    let text = c.args.text.now in
    let behind = digits_behind text c.digit_len-len.result c.digit_len-len.ensures in
    let e = integer_front text c.requires.begins c.requires.no_arrow c.digit_len-len.result behind (Some (Integer c.in_ok-number.number)) (c.in_ok-number.ensures ∙ ap integer_at c.in_ok-text_of.ensures) in
    (first_of (search (rules, e), grind (arith, common_steps, e)), (omega arith, integer_within text c.requires.begins c.digit_len-len.result behind))
