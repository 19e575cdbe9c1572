use Rattle.std.proofs.Common.{◌≡◌, sym, subst, ◌∙◌, IfOk}
use Rattle.plain_values.proofs.Common.{override}
use Rattle.lens_values.proofs.Cells.{Knows, own_names, all_many, all_made, union_knows, below_knows}
use Rattle.lens_values.proofs.row.Row.paste.Goals as goal
use Rattle.lens_values.proofs.row.Row.paste.Goals.{then-within+in_ok-all, else-within+in_ok-all-2}

pub from_values-requires : goal.from_values-requires
from_values-requires c =
    let over = c.args.over.now in
    let row = c.args.self.now in
    let known : Knows c.if-within.all (override over row) = elim c.if-within.branch [
      | then-within+in_ok-all w ↦
          subst (λ C. Knows C (override over row)) (sym (w.all-is ∙ w.in_ok-all.ensures))
          (below_knows c.names.result.now c.names-own.result.now over row (own_names _ over c.names.ensures) (own_names _ row c.names-own.ensures) (sym c.within.ensures ∙ w.if-within.true))
      | else-within+in_ok-all-2 w ↦
          subst (λ C. Knows C (override over row)) (sym (w.all-is ∙ w.in_ok-all-2.ensures))
          (union_knows w.names-else-within.result.now c.names-own.result.now over row (own_names _ over w.names-else-within.ensures) (own_names _ row c.names-own.ensures))
    ] in
    all_many c.if-within.all (override over row) c.in_ok-values.values.items known c.in_ok-values.ensures

pub returns : goal.returns
returns c =
    let over = c.args.over.now in
    let row = c.args.self.now in
    let known : Knows c.if-within.all (override over row) = elim c.if-within.branch [
      | then-within+in_ok-all w ↦
          subst (λ C. Knows C (override over row)) (sym (w.all-is ∙ w.in_ok-all.ensures))
          (below_knows c.names.result.now c.names-own.result.now over row (own_names _ over c.names.ensures) (own_names _ row c.names-own.ensures) (sym c.within.ensures ∙ w.if-within.true))
      | else-within+in_ok-all-2 w ↦
          subst (λ C. Knows C (override over row)) (sym (w.all-is ∙ w.in_ok-all-2.ensures))
          (union_knows w.names-else-within.result.now c.names-own.result.now over row (own_names _ over w.names-else-within.ensures) (own_names _ row c.names-own.ensures))
    ] in
    subst (λ u. IfOk c.from_values.result (λ both. both ≡ u)) (all_made c.if-within.all (override over row) c.in_ok-values.values.items known c.in_ok-values.ensures) c.from_values.ensures
