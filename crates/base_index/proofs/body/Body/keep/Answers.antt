use Rattle.std.proofs.Common.{ap, sym, ◌∙◌, subst}
use Rattle.base_index.specs.Parts.{IsWhole, parts_of, rows_next, rows_seen}
use Rattle.base_index.proofs.Bodies.{calm_next}
use Rattle.base_index.proofs.Settled.{keeping, keeping_calm, keeping_seen, keeping_whole}
use Rattle.key_index.proofs.Common.{same_trans}
use Rattle.base_index.proofs.body.Body.keep.Goals as goal

pub returns-clause-whole : goal.returns-clause-whole
returns-clause-whole c =
    let p = parts_of c.unstage.new.self in
    subst IsWhole (sym (λ i. record (keeping p c.unstage.ensures.whole c.unstage.ensures.calm c.take_hidden.new.rows c.take_hidden.new.hidden c.clear-2.new.self c.take_hidden.new.indexes.items c.take_hidden.ensures.rows c.take_hidden.ensures.hidden c.take_hidden.ensures.indexes) { add = c.clear.ensures.items i; remove = c.take_hidden.ensures.remove i }))
    (keeping_whole p c.unstage.ensures.whole c.unstage.ensures.calm c.take_hidden.new.rows c.take_hidden.new.hidden c.clear-2.new.self c.take_hidden.new.indexes.items c.take_hidden.ensures.rows c.take_hidden.ensures.hidden c.take_hidden.ensures.indexes)

pub returns-clause-seen : goal.returns-clause-seen
returns-clause-seen c =
    let p = parts_of c.unstage.new.self in
    ap rows_seen (λ i. record (keeping p c.unstage.ensures.whole c.unstage.ensures.calm c.take_hidden.new.rows c.take_hidden.new.hidden c.clear-2.new.self c.take_hidden.new.indexes.items c.take_hidden.ensures.rows c.take_hidden.ensures.hidden c.take_hidden.ensures.indexes) { add = c.clear.ensures.items i; remove = c.take_hidden.ensures.remove i })
    ∙ keeping_seen p c.unstage.ensures.whole c.unstage.ensures.calm c.take_hidden.new.rows c.take_hidden.new.hidden c.clear-2.new.self c.take_hidden.new.indexes.items c.take_hidden.ensures.rows c.take_hidden.ensures.hidden c.take_hidden.ensures.indexes
    ∙ c.unstage.ensures.kept.seen

pub returns-clause-next : goal.returns-clause-next
returns-clause-next c =
    let p = parts_of c.unstage.new.self in
    ap rows_next (λ i. record (keeping p c.unstage.ensures.whole c.unstage.ensures.calm c.take_hidden.new.rows c.take_hidden.new.hidden c.clear-2.new.self c.take_hidden.new.indexes.items c.take_hidden.ensures.rows c.take_hidden.ensures.hidden c.take_hidden.ensures.indexes) { add = c.clear.ensures.items i; remove = c.take_hidden.ensures.remove i })
    ∙ calm_next (keeping p c.unstage.ensures.whole c.unstage.ensures.calm c.take_hidden.new.rows c.take_hidden.new.hidden c.clear-2.new.self c.take_hidden.new.indexes.items c.take_hidden.ensures.rows c.take_hidden.ensures.hidden c.take_hidden.ensures.indexes) (keeping_calm p c.unstage.ensures.whole c.unstage.ensures.calm c.take_hidden.new.rows c.take_hidden.new.hidden c.clear-2.new.self c.take_hidden.new.indexes.items c.take_hidden.ensures.rows c.take_hidden.ensures.hidden c.take_hidden.ensures.indexes)
    ∙ keeping_seen p c.unstage.ensures.whole c.unstage.ensures.calm c.take_hidden.new.rows c.take_hidden.new.hidden c.clear-2.new.self c.take_hidden.new.indexes.items c.take_hidden.ensures.rows c.take_hidden.ensures.hidden c.take_hidden.ensures.indexes
    ∙ c.unstage.ensures.kept.seen

pub returns-clause-cols : goal.returns-clause-cols
returns-clause-cols c = same_trans _ _ _ c.unstage.ensures.kept.cols c.take_hidden.ensures.cols
