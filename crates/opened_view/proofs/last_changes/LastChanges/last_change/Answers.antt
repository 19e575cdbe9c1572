use Rattle.std.proofs.Common.{◌∙◌, ap, unwrap_or}
use Rattle.std.specs.FinMap as finmap
use Rattle.lens_laws.proofs.Common.{looked_up}
use Rattle.opened_view.proofs.last_changes.LastChanges.last_change.Goals as goal

pub returns : goal.returns
returns c =
    c.unwrap_or.ensures
    ∙ ap (λ o. unwrap_or o 0) (c.copied.ensures ∙ c.get.ensures.value ∙ looked_up c.self.inside.versions.entries c.args.table.now ∙ ap (λ last. finmap.get last c.args.table.now) c.self.view_is)
