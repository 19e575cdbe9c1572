use Rattle.std.proofs.Common.{ap, sym, ◌∙◌, subst}
use Rattle.base_index.specs.Parts.{IsWhole, parts_of, rows_next, rows_seen}
use Rattle.base_index.proofs.Bodies.{calm_next}
use Rattle.base_index.proofs.Settled.{going_back, going_back_calm, going_back_seen, going_back_whole}
use Rattle.base_index.proofs.body.Body.back.Goals as goal

pub returns-clause-whole : goal.returns-clause-whole
returns-clause-whole c =
    let p = parts_of c.args.self.now in
    subst IsWhole (sym (λ i. record (going_back p c.requires c.take_behind.new.rows c.new.result c.clear-3.new.self c.take_behind.new.indexes.items c.take_behind.ensures.rows c.new.ensures c.take_behind.ensures.indexes) { add = c.take_behind.ensures.gone i; remove = c.clear.ensures.items i; revive = c.clear-2.ensures.items i }))
    (going_back_whole p c.requires c.take_behind.new.rows c.new.result c.clear-3.new.self c.take_behind.new.indexes.items c.take_behind.ensures.rows c.new.ensures c.take_behind.ensures.indexes)

pub returns-clause-seen : goal.returns-clause-seen
returns-clause-seen c =
    let p = parts_of c.args.self.now in
    ap rows_seen (λ i. record (going_back p c.requires c.take_behind.new.rows c.new.result c.clear-3.new.self c.take_behind.new.indexes.items c.take_behind.ensures.rows c.new.ensures c.take_behind.ensures.indexes) { add = c.take_behind.ensures.gone i; remove = c.clear.ensures.items i; revive = c.clear-2.ensures.items i })
    ∙ going_back_seen p c.requires c.take_behind.new.rows c.new.result c.clear-3.new.self c.take_behind.new.indexes.items c.take_behind.ensures.rows c.new.ensures c.take_behind.ensures.indexes

pub returns-clause-next : goal.returns-clause-next
returns-clause-next c =
    let p = parts_of c.args.self.now in
    ap rows_next (λ i. record (going_back p c.requires c.take_behind.new.rows c.new.result c.clear-3.new.self c.take_behind.new.indexes.items c.take_behind.ensures.rows c.new.ensures c.take_behind.ensures.indexes) { add = c.take_behind.ensures.gone i; remove = c.clear.ensures.items i; revive = c.clear-2.ensures.items i })
    ∙ calm_next (going_back p c.requires c.take_behind.new.rows c.new.result c.clear-3.new.self c.take_behind.new.indexes.items c.take_behind.ensures.rows c.new.ensures c.take_behind.ensures.indexes) (going_back_calm p c.requires c.take_behind.new.rows c.new.result c.clear-3.new.self c.take_behind.new.indexes.items c.take_behind.ensures.rows c.new.ensures c.take_behind.ensures.indexes)
    ∙ going_back_seen p c.requires c.take_behind.new.rows c.new.result c.clear-3.new.self c.take_behind.new.indexes.items c.take_behind.ensures.rows c.new.ensures c.take_behind.ensures.indexes
