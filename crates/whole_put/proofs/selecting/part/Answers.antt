use Rattle.std.proofs.Common.{◌∙◌, ap, subst, sym}
use Rattle.fd_laws.proofs.Common.{from_those}
use Rattle.plain_values.specs.SortedSet as set
use Rattle.lens_specs.specs.Common.{Fits, those}
use Rattle.whole_put.specs.Shows.{is_shown}
use Rattle.whole_put.proofs.selecting.part.Goals as goal

pub with_rows-requires : goal.with_rows-requires
with_rows-requires c = λ row there.
    let p = is_shown c.args.pred.now c.args.shown in
    let M = c.args.relation.now.rows in
    subst (λ U. Fits U row) (sym (c.in_ok-copy.ensures ∙ c.columns.ensures))
    (c.rows.ensures.fit row (from_those p M row (ap (λ R. set.contains R row) (sym (c.in_ok-rows.ensures ∙ ap (those p) c.rows.ensures.rows)) ∙ there)).0)
