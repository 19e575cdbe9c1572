use Rattle.std.proofs.Common.{take, option_map, ap, sym, ◌∙◌, rules, Some, None}
use Rattle.plain_values.specs.Name.{name_of}
use Rattle.grammar_specs.specs.Common.{word}
use Rattle.view_lang.specs.declared.parsing.token.Token.TheVariants.{Word}
use Rattle.view_lang.proofs.Fronts.{no_word, name_found, word_front, word_within}
use Rattle.view_lang.proofs.parsing.lexer.word.Goals as goal

pub returns-in_err-text_of : goal.returns-in_err-text_of
returns-in_err-text_of c =
    let bytes = take c.word_len-len.result c.args.text.now in
    let e = word_front c.args.text.now c.requires c.word_len-len.result c.word_len-len.ensures None (sym (no_word bytes c.in_err-text_of.ensures)) in (cc, search rules)

pub returns-in_err-name : goal.returns-in_err-name
returns-in_err-name c =
    let bytes = take c.word_len-len.result c.args.text.now in
    let e = word_front c.args.text.now c.requires c.word_len-len.result c.word_len-len.ensures None
    (ap (option_map word) c.in_err-name.ensures.value ∙ name_found bytes c.new.result (c.new.ensures ∙ ap name_of c.in_ok-text_of.ensures)) in (cc, search rules)

pub returns : goal.returns
returns c =
    let bytes = take c.word_len-len.result c.args.text.now in (
      word_front c.args.text.now c.requires c.word_len-len.result c.word_len-len.ensures (Some (Word c.in_ok-name.name))
          (ap (option_map word) c.in_ok-name.ensures.value ∙ name_found bytes c.new.result (c.new.ensures ∙ ap name_of c.in_ok-text_of.ensures)),
      word_within c.args.text.now c.requires c.word_len-len.result c.word_len-len.ensures,
    )
