use Rattle.std.proofs.Common.{ap, sym, ◌∙◌, ◌+◌, drop, ◌||◌}
use Rattle.plain_values.proofs.Common.{drop_all, row_cmp}
use Rattle.plain_values.specs.SortedSet as set
use Rattle.key_index.specs.Lists.{rows_of}
use Rattle.key_index.proofs.Views.{listed_at}
use Rattle.key_index.proofs.keyed.is_listed.Goals as goal

pub returns-then-eq : goal.returns-then-eq
returns-then-eq c =
    let rest = set.contains (rows_of (drop (c.loop-keyed.keyed-index + 1) c.args.list.now)) c.args.row.now in
    sym (c.loop-keyed.invariant ∙ listed_at c.args.list.now c.args.row.now c.loop-keyed.keyed-index c.keyed-item.result c.loop-keyed-test.true c.keyed-item.is
    ∙ ap (λ b. b || rest) (sym c.eq.ensures ∙ c.if-eq.true))

pub loop-keyed-preserved : goal.loop-keyed-preserved
loop-keyed-preserved c =
    let rest = set.contains (rows_of (drop (c.loop-keyed.keyed-index + 1) c.args.list.now)) c.args.row.now in
    c.loop-keyed.invariant ∙ listed_at c.args.list.now c.args.row.now c.loop-keyed.keyed-index c.keyed-item.result c.loop-keyed-test.true c.keyed-item.is
    ∙ ap (λ b. b || rest) (sym c.eq.ensures ∙ c.if-eq.false)

pub returns : goal.returns
returns c =
    sym (c.loop-keyed.invariant ∙ ap (λ l. set.contains (rows_of l) c.args.row.now) (drop_all c.loop-keyed.keyed-index c.args.list.now c.loop-keyed-test.false)
    ∙ set.contains-empty row_cmp c.args.row.now)
