use Rattle.std.proofs.Common.{◌∙◌, ap, sym, option_copied}
use Rattle.lens_specs.specs.Common.{first_row, agree}
use Rattle.revision.specs.Near.{agrees_with}
use Rattle.revision.proofs.unlike.is_like_first.Goals as goal

pub returns-in-None : goal.returns-in-None
returns-in-None c =
    let e = c.args.edge.now in
    let m = c.args.row.now in
    ap (agrees_with e.right m) (ap option_copied (sym c.in-None.is) ∙ c.in_ok-first.ensures ∙ ap (λ k. first_row (agree k.left m) c.args.near.now) c.edge.view_is)

pub returns-in-Some : goal.returns-in-Some
returns-in-Some c =
    let e = c.args.edge.now in
    let m = c.args.row.now in
    c.agree_on.ensures ∙ ap (λ k. agree k.right c.in-Some.first.now m) c.edge.view_is
    ∙ ap (agrees_with e.right m) (ap option_copied (sym c.in-Some.is) ∙ c.in_ok-first.ensures ∙ ap (λ k. first_row (agree k.left m) c.args.near.now) c.edge.view_is)
