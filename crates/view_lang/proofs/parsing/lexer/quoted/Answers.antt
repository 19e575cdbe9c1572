use Rattle.std.proofs.Common.{◌≡◌, ℕ, ◌<◌, List, ◌∷◌, [], ◌++◌, length, Some, None, refl, ap, ◌∙◌, string_bytes, arith, lit<, length-append}
use Rattle.std.proofs.lemmas.Str.Pattern.{split_parts, strip_prefix_char}
use Rattle.std.proofs.lemmas.Str.{encode_ascii}
use Rattle.grammar_laws.proofs.Quotes.{gathers_none, gathers_more, gathers_last, gathers_open, no_quote, unquoted, text_more}
use Rattle.view_lang.proofs.parsing.lexer.quoted.Goals as goal

pub loop-piece-init : goal.loop-piece-init
loop-piece-init c = (c.utf8.text, gathers_none c.args.text.now (string_bytes c.new-value.result) c.new-value.ensures.bytes)

pub returns-in_default-strip_prefix : goal.returns-in_default-strip_prefix
returns-in_default-strip_prefix c =
    let parts = split_parts 39 c.loop-piece.rest.now (Some (c.in-Some.piece, c.in-Some.behind)) c.in-Some.ensures.cases (lit< tt) in
    let end = strip_prefix_char 39 c.in-Some.behind.now None c.in_default-strip_prefix.ensures.cases (lit< tt) in (
      c.in-Some.behind.now,
      gathers_last c.args.text.now (string_bytes c.loop-piece.value) c.loop-piece.rest.now c.in-Some.piece.now c.in-Some.behind.now (string_bytes c.push_str.new.self)
          c.loop-piece.invariant.1 parts.0 (no_quote c.in-Some.piece.now parts.1) (unquoted c.in-Some.behind.now end) c.in_ok-push_str.ensures.bytes,
      refl,
    )

shorter : (rest piece behind more : List ℕ) → rest ≡ piece ++ 39 ∷ behind → behind ≡ 39 ∷ more → length more < length rest
shorter rest piece behind more e f = omega (arith, ap length e, ap length f, length-append piece (39 ∷ behind))

pub loop-piece-smaller : goal.loop-piece-smaller
loop-piece-smaller c =
    let parts = split_parts 39 c.loop-piece.rest.now (Some (c.in-Some.piece, c.in-Some.behind)) c.in-Some.ensures.cases (lit< tt) in
    let next = strip_prefix_char 39 c.in-Some.behind.now (Some c.in-Some-strip_prefix.more) c.in-Some-strip_prefix.ensures.cases (lit< tt) in
    shorter c.loop-piece.rest.now c.in-Some.piece.now c.in-Some.behind.now c.in-Some-strip_prefix.more.now parts.0 next

pub loop-piece-preserved : goal.loop-piece-preserved
loop-piece-preserved c =
    let parts = split_parts 39 c.loop-piece.rest.now (Some (c.in-Some.piece, c.in-Some.behind)) c.in-Some.ensures.cases (lit< tt) in
    let next = strip_prefix_char 39 c.in-Some.behind.now (Some c.in-Some-strip_prefix.more) c.in-Some-strip_prefix.ensures.cases (lit< tt) in (
      text_more c.loop-piece.rest.now c.in-Some.piece.now c.in-Some.behind.now c.in-Some-strip_prefix.more.now c.loop-piece.invariant.0 parts.0 next,
      gathers_more c.args.text.now (string_bytes c.loop-piece.value) c.loop-piece.rest.now c.in-Some.piece.now c.in-Some-strip_prefix.more.now (string_bytes c.push.new.self)
          c.loop-piece.invariant.1 (parts.0 ∙ ap (λ x. c.in-Some.piece.now ++ 39 ∷ x) next) (no_quote c.in-Some.piece.now parts.1)
          (c.in_ok-push.ensures.bytes ∙ ap (λ x. string_bytes c.push_str.new.self ++ x) (encode_ascii 39 (lit< tt)) ∙ ap (λ x. x ++ 39 ∷ []) c.in_ok-push_str.ensures.bytes),
    )

pub returns : goal.returns
returns c =
    let parts = split_parts 39 c.loop-piece.rest.now None c.in_default.ensures.cases (lit< tt) in
    gathers_open c.args.text.now (string_bytes c.loop-piece.value) c.loop-piece.rest.now c.loop-piece.invariant.1 (no_quote c.loop-piece.rest.now parts)
