use Rattle.std.proofs.Common.{sym, ◌∙◌, arith, slice_index_or}
use Rattle.key_index.specs.Index.{has_key}
use Rattle.key_index.proofs.Whole.{none_pass}
use Rattle.key_index.proofs.filling.empty_indexes.Goals as goal

pub returns-clause-table : goal.returns-clause-table
returns-clause-table c = λ i d within key.
    c.loop-index.invariant.2 i d key (omega (arith, within, c.loop-index.invariant.0)) ∙ sym (none_pass (has_key (slice_index_or c.loop-index.made.items i d).cols key))
