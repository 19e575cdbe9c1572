use Rattle.std.proofs.Common.{sym, subst}
use Rattle.lens_specs.specs.Common.{CanChange}
use Rattle.table_keeper.specs.Changes.{change_view}
use Rattle.table_keeper.specs.Holding.{Holding}
use Rattle.table_keeper.proofs.memory.MemoryKeeper.make.Goals as goal

pub change-requires : goal.change-requires
change-requires c = subst (λ (h : Holding). CanChange (change_view c.args.change.now) h.kept) (sym c.count_call.ensures.held) c.requires
