use Rattle.std.proofs.Common.{◌≡◌, ◌∙◌, Some, ap, arith, length, subst, sym, IfOk}
use Rattle.std.specs.FinMap as finmap
use Rattle.plain_values.proofs.Common.{IfOk-weaker, override}
use Rattle.lens_values.specs.Paired.{paired}
use Rattle.plain_values.specs.SortedSet as set
use Rattle.lens_values.proofs.Cells.{all_made, own_names}
use Rattle.lens_specs.specs.Common.{with_at}
use Rattle.drop_delta.proofs.Written.{over_is, written_knows}
use Rattle.drop_delta.proofs.editing.with_value.Goals as goal

pub from_values-requires : goal.from_values-requires
from_values-requires c = ap (λ C. length (set.items C)) c.in_ok-copy.ensures ∙ omega (arith, c.len.ensures, c.len-2.ensures, c.if-len.true, c.in_ok-values.values.ok)

pub returns-then-within : goal.returns-then-within
returns-then-within c =
    let A = c.args.col.now in
    let v = c.args.value.now in
    let n = c.args.row.now in
    let L = c.args.like.now in
    let values = c.in_ok-values.values.items in
    let known = written_knows A v n c.names.result.now L values (own_names c.names.result.now n c.names.ensures) c.in_ok-values.ensures
    (omega (arith, c.len.ensures, c.len-2.ensures, c.if-len.true, c.in_ok-values.values.ok)) (sym c.has.ensures ∙ c.if-has.true) (sym c.within.ensures ∙ c.if-within.true) in
    subst (λ u. IfOk c.from_values.result (λ filled. filled ≡ u))
    (ap (λ C. finmap.from_entries (paired C values)) c.in_ok-copy.ensures ∙ all_made L (with_at n A (Some v)) values known c.in_ok-values.ensures)
    c.from_values.ensures

pub returns : goal.returns
returns c =
    let A = c.args.col.now in
    let v = c.args.value.now in
    let n = c.args.row.now in
    IfOk-weaker c.paste.result _ _ (λ both is. is ∙ ap (λ s. override s n) c.in_ok-single.ensures ∙ over_is A v n) c.paste.ensures
