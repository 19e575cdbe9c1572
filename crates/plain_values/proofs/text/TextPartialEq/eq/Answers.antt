use Rattle.std.proofs.Common.{◌≡◌, sym, ap, ◌∙◌, rules}
use Rattle.std.specs.Ordering.{is_eq}
use Rattle.std.specs.Cmp.Lexicographic.{texts_ties}
use Rattle.plain_values.specs.Order.{bytes_cmp}
use Rattle.plain_values.proofs.text.TextPartialEq.eq.Goals as goal

pub returns-in-Short-Short : goal.returns-in-Short-Short
returns-in-Short-Short c =
    let t = texts_ties c.args.self.now c.args.other.now in
    let o : c.cmp.result ≡ bytes_cmp c.args.self.now c.args.other.now = search rules in
    c.is_eq.ensures ∙ ap is_eq o ∙ sym t
