use Rattle.std.proofs.Common.{◌≡◌, ◌∙◌, ◌++◌, ap, sym}
use Rattle.plain_values.proofs.Common.{list_any}
use Rattle.plain_values.specs.SortedSet as set
use Rattle.lens_laws.proofs.Common.{find_by}
use Rattle.revision.specs.Near.{is_like}
use Rattle.revision.proofs.Near.{as_they_were, with_found}
use Rattle.revision.proofs.nearing.with_near.Goals as goal

pub find-requires-clause-key : goal.find-requires-clause-key
find-requires-clause-key g c =
    λ k i. c.requires.have k (sym (ap (λ e. set.contains e.left k) c.edge.view_is) ∙ i)

pub returns-clause-near : goal.returns-clause-near
returns-clause-near g c =
    let e = c.args.edge.now in
    let M = (g.K.Look.relation c.args.look.now).rows in
    let p = c.args.row.now in
    let found : c.in_ok-found.found ≡ find_by e.left p M = c.in_ok-found.ensures.found ∙ ap (λ x. find_by x.left p M) c.edge.view_is in
    c.in_ok-append.ensures ∙ ap (λ rows. c.args.rows.items ++ rows) (c.rows.ensures ∙ ap set.items found)
    ∙ with_found e M p c.args.rows.items c.has_like.result (c.has_like.ensures ∙ ap (list_any (is_like e p)) c.deref.ensures.value) c.if-has_like.false

pub returns-then-has_like-clause-near : goal.returns-then-has_like-clause-near
returns-then-has_like-clause-near g c =
    let e = c.args.edge.now in
    let p = c.args.row.now in
    as_they_were e (g.K.Look.relation c.args.look.now).rows p c.args.rows.items c.has_like.result
    (c.has_like.ensures ∙ ap (list_any (is_like e p)) c.deref.ensures.value) c.if-has_like.true
