use Rattle.std.proofs.Common.{◌∙◌, ap, map, subst}
use Rattle.plain_values.proofs.Common.{IfOk-weaker, restrict}
use Rattle.plain_values.specs.SortedSet as set
use Rattle.lens_specs.specs.Common.{diff}
use Rattle.view_reading.specs.KnownRows.{AreParts}
use Rattle.view_reading.specs.Unfiltered.{passing}
use Rattle.view_reading.proofs.PartLists.{parts_are}
use Rattle.view_reading.proofs.differing.difference_in.Goals as goal

pub returns-clause-delta : goal.returns-clause-delta
returns-clause-delta g c =
    let rows = passing c.in_ok-unfiltered.unfiltered in
    let parts = subst (λ known. AreParts known c.in_ok-parts.parts (map (restrict c.names_of.result.now) rows)) c.rows.ensures c.in_ok-parts.ensures in
    IfOk-weaker c.difference.result _ _
    (λ delta made. made
    ∙ ap (λ M. diff M c.args.known.now) (parts_are c.in_ok-parts.parts c.args.known.now (map (restrict c.names_of.result.now) rows) parts ∙ ap (λ C. set.from_list (map (restrict C) rows)) c.names_of.ensures ∙ c.in_ok-unfiltered.ensures.value))
    c.difference.ensures
