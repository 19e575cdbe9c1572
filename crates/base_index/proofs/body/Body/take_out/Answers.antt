use Rattle.std.proofs.Common.{ap, sym, ◌∙◌, subst}
use Rattle.base_index.specs.Parts.{IsWhole, parts_of, rows_next, rows_seen}
use Rattle.base_index.proofs.Bodies.{calm_next}
use Rattle.base_index.proofs.Settled.{taken_calm, taken_out, taken_seen, taken_whole}
use Rattle.base_index.proofs.body.Body.take_out.Goals as goal

pub returns-clause-whole : goal.returns-clause-whole
returns-clause-whole c =
    let p = parts_of c.args.self.now in
    subst IsWhole (sym (λ i. record (taken_out p c.requires.whole c.requires.free c.take_behind.new.rows c.take_behind.new.indexes.items c.take_behind.ensures.rows c.take_behind.ensures.indexes c.take_behind.ensures.cols) { add = (c.shrink.ensures ∙ c.clear.ensures.items) i; remove = (c.shrink-2.ensures ∙ c.take_behind.ensures.gone) i; revive = c.clear-2.ensures.items i }))
    (taken_whole p c.requires.whole c.requires.free c.take_behind.new.rows c.take_behind.new.indexes.items c.take_behind.ensures.rows c.take_behind.ensures.indexes c.take_behind.ensures.cols)

pub returns-clause-seen : goal.returns-clause-seen
returns-clause-seen c =
    let p = parts_of c.args.self.now in
    ap rows_seen (λ i. record (taken_out p c.requires.whole c.requires.free c.take_behind.new.rows c.take_behind.new.indexes.items c.take_behind.ensures.rows c.take_behind.ensures.indexes c.take_behind.ensures.cols) { add = (c.shrink.ensures ∙ c.clear.ensures.items) i; remove = (c.shrink-2.ensures ∙ c.take_behind.ensures.gone) i; revive = c.clear-2.ensures.items i })
    ∙ taken_seen p c.requires.whole c.requires.free c.take_behind.new.rows c.take_behind.new.indexes.items c.take_behind.ensures.rows c.take_behind.ensures.indexes c.take_behind.ensures.cols

pub returns-clause-next : goal.returns-clause-next
returns-clause-next c =
    let p = parts_of c.args.self.now in
    ap rows_next (λ i. record (taken_out p c.requires.whole c.requires.free c.take_behind.new.rows c.take_behind.new.indexes.items c.take_behind.ensures.rows c.take_behind.ensures.indexes c.take_behind.ensures.cols) { add = (c.shrink.ensures ∙ c.clear.ensures.items) i; remove = (c.shrink-2.ensures ∙ c.take_behind.ensures.gone) i; revive = c.clear-2.ensures.items i })
    ∙ calm_next (taken_out p c.requires.whole c.requires.free c.take_behind.new.rows c.take_behind.new.indexes.items c.take_behind.ensures.rows c.take_behind.ensures.indexes c.take_behind.ensures.cols) (taken_calm p c.requires.whole c.requires.free c.take_behind.new.rows c.take_behind.new.indexes.items c.take_behind.ensures.rows c.take_behind.ensures.indexes c.take_behind.ensures.cols)
    ∙ taken_seen p c.requires.whole c.requires.free c.take_behind.new.rows c.take_behind.new.indexes.items c.take_behind.ensures.rows c.take_behind.ensures.indexes c.take_behind.ensures.cols
