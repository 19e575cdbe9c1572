use Rattle.std.proofs.Common.{◌<◌, length, sym, subst, rules}
use Rattle.view_lang.specs.TokenViews.{token_view}
use Rattle.view_lang.specs.Outcomes.{reader_view}
use Rattle.view_lang.proofs.Turns.{fewer_behind}
use Rattle.view_lang.proofs.parsing.reader.Reader.take_name.Goals as goal

pub returns : goal.returns
returns c =
    let old = reader_view c.args.self.now in
    (search rules, search rules, λ _. subst (λ x. length x < length old) (sym c.skip.ensures) (fewer_behind old (token_view c.in_ok-next.field-0.now) c.in_ok-next.ensures))
