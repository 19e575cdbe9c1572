use Rattle.std.proofs.Common.{◌∙◌, ◌++◌, ap, append-nil, arith, map, sym}
use Rattle.plain_values.proofs.Common.{override, take_all}
use Rattle.row_sets.proofs.joining.append_pairs.Goals as goal

pub loop-entry-init : goal.loop-entry-init
loop-entry-init c = sym (append-nil c.args.pairs.now.items)

pub returns : goal.returns
returns c =
    c.loop-entry.invariant
    ∙ ap (λ l. c.args.pairs.now.items ++ map (λ e. override e.1 c.args.row.now) l) (take_all c.loop-entry.entry-index c.args.index.now (omega arith))
