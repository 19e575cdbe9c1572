use Rattle.std.proofs.Common.{◌≡◌, ap, subst, sym, ◌∙◌, IfSome, filter}
use Rattle.plain_values.proofs.Common.{is_eq, restrict, row_cmp, parts_same}
use Rattle.row_sets.proofs.joining.partners.Goals as goal

pub returns-in-Some : goal.returns-in-Some
returns-in-Some c =
    subst (λ o. IfSome o (λ b. c.args.near.entries.now ≡ filter (λ e. is_eq (row_cmp e.0 (restrict c.args.cols.now b.now))) c.args.index.now)) c.in-Some.is c.requires.near
    ∙ ap (λ k. filter (λ e. is_eq (row_cmp e.0 k)) c.args.index.now)
    (sym (parts_same c.args.cols.now c.in-Some.before.now c.args.row.now (sym c.agree_on.ensures ∙ c.if-agree_on.true)))
