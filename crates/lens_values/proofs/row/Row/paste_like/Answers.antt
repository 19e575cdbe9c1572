use Rattle.std.proofs.Common.{◌≡◌, sym, ap, subst, ◌∙◌, arith, IfOk}
use Rattle.plain_values.proofs.Common.{from_entries, override}
use Rattle.lens_values.specs.Paired.{paired}
use Rattle.lens_values.proofs.Cells.{all_made, full_knows, own_names}
use Rattle.lens_values.proofs.row.Row.paste_like.Goals as goal

pub returns-then-within-2 : goal.returns-then-within-2
returns-then-within-2 c =
    let over = c.args.over.now in
    let row = c.args.self.now in
    let values = c.in_ok-values.values.items in
    let known = full_knows c.names.result.now c.names-then-within.result.now c.args.like.now over row values (own_names _ over c.names.ensures) (own_names _ row c.names-then-within.ensures) c.in_ok-values.ensures
    (omega (arith, c.len.ensures, c.len-2.ensures, c.if-len.true, c.in_ok-values.values.ok)) (sym c.within.ensures ∙ c.if-within.true) (sym c.within-then-within.ensures ∙ c.if-within-2.true) in
    subst (λ u. IfOk c.from_values.result (λ both. both ≡ u))
    (ap (λ C. from_entries (paired C values)) c.in_ok-copy.ensures ∙ all_made c.args.like.now (override over row) values known c.in_ok-values.ensures)
    c.from_values.ensures
