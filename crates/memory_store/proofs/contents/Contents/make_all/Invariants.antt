use Rattle.std.proofs.Common.{◌≡◌, drop, map}
use Rattle.table_keeper.specs.Changes.{change_view}
use Rattle.memory_store.specs.InMemory.{after}
use Rattle.memory_store.proofs.contents.Contents.make_all.Given as goal

-- once the changes that are left are made, all are
abbrev pub invariant-loop-change : goal.invariant-loop-change
invariant-loop-change l = after (map change_view (drop l.change-index l.changes)) l.self ≡ after (map change_view l.changes) l.fn.self
