use Rattle.std.proofs.Common.{◌-◌, length, map, take, ap, ◌∙◌}
use Rattle.edit_batches.specs.Histories.{deltas_of}
use Rattle.edit_batches.proofs.Lists.{front_mapped}
use Rattle.edit_batches.proofs.history.History.pop.Goals as goal

pub returns-clause-list : goal.returns-clause-list
returns-clause-list c =
    ap (λ b. map deltas_of b.items) c.pop_back.ensures.items ∙ front_mapped deltas_of c.self.inside.ring.items
    ∙ ap (λ list. take (length list - 1) list) c.self.view_is
