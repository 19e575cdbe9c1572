use Rattle.std.proofs.Common.{◌∙◌, ap, map}
use Rattle.lens_specs.specs.Common.{changed}
use Rattle.table_keeper.specs.Changes.{change_view, kept_view}
use Rattle.memory_store.specs.InMemory.{after}
use Rattle.memory_store.proofs.After.{one_more}
use Rattle.memory_store.proofs.store.MemoryStore.change.Goals as goal

pub returns-then-is_long-clause-ok : goal.returns-then-is_long-clause-ok
returns-then-is_long-clause-ok c =
    let folded = kept_view c.self.inside.folded in
    c.fold.ensures ∙ ap (λ changes. after (map change_view changes) folded) c.in_ok-push.ensures.items
    ∙ one_more c.self.inside.changes.items c.in_ok-copy.copy folded ∙ (λ k. changed (c.in_ok-copy.ensures k) (c.self.view_is k))

pub returns-else-is_long-clause-ok : goal.returns-else-is_long-clause-ok
returns-else-is_long-clause-ok c =
    let folded = kept_view c.self.inside.folded in
    ap (λ changes. after (map change_view changes) folded) c.in_ok-push.ensures.items
    ∙ one_more c.self.inside.changes.items c.in_ok-copy.copy folded ∙ (λ k. changed (c.in_ok-copy.ensures k) (c.self.view_is k))
