use Rattle.std.proofs.Common.{◌≡◌, ap, subst, sym, ◌∙◌, IfSome, filter}
use Rattle.plain_values.proofs.Common.{is_eq, row_cmp, parts_same}
use Rattle.view_reading.specs.Pasting.{HasNames, near_in}
use Rattle.view_reading.proofs.joining.Index.partners.Goals as goal

pub returns-in-Some : goal.returns-in-Some
returns-in-Some c = λ U at mine others.
    let C = c.args.self.now.cols in
    let entries = c.args.self.now.entries.items in
    let other : HasNames U c.in-Some.before.now = subst (λ o. IfSome o (λ b. HasNames U b.now)) c.in-Some.is others in
    subst (λ o. IfSome o (λ b. c.args.near.entries.now ≡ near_in entries C b.now)) c.in-Some.is c.requires.near
    ∙ ap (λ k. filter (λ e. is_eq (row_cmp e.0 k)) entries)
    (sym (parts_same C c.in-Some.before.now c.args.row.now (sym (c.are_alike.ensures U at other mine) ∙ c.if-are_alike.true)))
