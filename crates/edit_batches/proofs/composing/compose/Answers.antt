use Rattle.std.proofs.Common.{◌≡◌, ◌∙◌, drop, map, sym, subst}
use Rattle.plain_values.proofs.Common.{drop_all}
use Rattle.signed_delta.specs.Tables.{table_delta}
use Rattle.lens_specs.specs.Common.{AreDeltas, composed}
use Rattle.edit_batches.proofs.Moves.{composed_are, no_more}
use Rattle.edit_batches.proofs.composing.compose.Goals as goal

pub returns-clause-deltas : goal.returns-clause-deltas
returns-clause-deltas c =
    let ds = map table_delta c.args.first.now in
    let es = map table_delta c.args.second.now in
    let is : map table_delta c.loop-name.both.items ≡ composed ds es =
    sym (no_more (map table_delta c.loop-name.both.items) ds es (drop c.loop-name.name-index c.as_slice-name-items.result.now)
    (drop_all c.loop-name.name-index c.as_slice-name-items.result.now c.loop-name-test.false)) ∙ c.loop-name.invariant in
    subst AreDeltas (sym is) (composed_are ds es)
