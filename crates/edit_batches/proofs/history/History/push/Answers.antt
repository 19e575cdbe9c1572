use Rattle.std.proofs.Common.{◌++◌, ◌∷◌, [], None, cond, length, map, nat_lt, slice_get, ap, ◌∙◌}
use Rattle.plain_values.proofs.Common.{option_map}
use Rattle.circular_buffer.specs.Buffer.{keep_last}
use Rattle.edit_batches.specs.Histories.{deltas_of}
use Rattle.edit_batches.proofs.Lists.{first_mapped, last_mapped}
use Rattle.edit_batches.proofs.history.History.push.Goals as goal

pub returns-clause-list : goal.returns-clause-list
returns-clause-list c =
    let items = c.self.inside.ring.items in
    ap (λ b. map deltas_of b.items) c.push_back.ensures.items
    ∙ ap (λ n. map deltas_of (keep_last n (items ++ c.args.entry ∷ []))) c.self.invariant
    ∙ last_mapped deltas_of 16 items c.args.entry
    ∙ ap (λ list. keep_last 16 (list ++ c.args.entry.deltas ∷ [])) c.self.view_is

pub returns-clause-oldest : goal.returns-clause-oldest
returns-clause-oldest c =
    let items = c.self.inside.ring.items in
    ap (option_map deltas_of) c.push_back.ensures.value
    ∙ ap (λ n. option_map deltas_of (cond (nat_lt (length items) n) None (slice_get (items ++ c.args.entry ∷ []) 0))) c.self.invariant
    ∙ first_mapped deltas_of items c.args.entry
    ∙ ap (λ list. cond (nat_lt (length list) 16) None (slice_get list 0)) c.self.view_is
