use Rattle.std.proofs.Common.{sym, ◌∙◌, subst}
use Rattle.base_index.specs.Parts.{IsWhole, parts_of, rows_held, rows_next, rows_seen}
use Rattle.base_index.proofs.Bodies.{kept_itself}
use Rattle.base_index.proofs.Staging.{dropped, dropped_held, dropped_next, dropped_seen, dropped_whole}
use Rattle.base_index.proofs.body.Body.unstage.Goals as goal

pub returns-clause-whole : goal.returns-clause-whole
returns-clause-whole c =
    let p = parts_of c.args.self.now in
    let new = dropped p c.requires c.take_behind.new.rows c.take_behind.new.indexes.items c.take_behind.ensures.rows c.take_behind.ensures.indexes c.take_behind.ensures.cols in
    subst IsWhole
    (sym (λ i. record new { hidden = c.show_behind.ensures.hidden i; add = c.take_behind.ensures.gone i; remove = c.show_behind.ensures.remove i; revive = c.clear.ensures.items i }))
    (dropped_whole p c.requires c.take_behind.new.rows c.take_behind.new.indexes.items c.take_behind.ensures.rows c.take_behind.ensures.indexes c.take_behind.ensures.cols)

pub returns-clause-next : goal.returns-clause-next
returns-clause-next c =
    let p = parts_of c.args.self.now in
    let new = dropped p c.requires c.take_behind.new.rows c.take_behind.new.indexes.items c.take_behind.ensures.rows c.take_behind.ensures.indexes c.take_behind.ensures.cols in
    (λ i. rows_next (record new { hidden = c.show_behind.ensures.hidden i; add = c.take_behind.ensures.gone i; remove = c.show_behind.ensures.remove i; revive = c.clear.ensures.items i }))
    ∙ dropped_next p c.requires c.take_behind.new.rows c.take_behind.new.indexes.items c.take_behind.ensures.rows c.take_behind.ensures.indexes c.take_behind.ensures.cols

pub returns-clause-kept : goal.returns-clause-kept
returns-clause-kept c =
    let p = parts_of c.args.self.now in
    let new = dropped p c.requires c.take_behind.new.rows c.take_behind.new.indexes.items c.take_behind.ensures.rows c.take_behind.ensures.indexes c.take_behind.ensures.cols in
    record {
      seen = (λ i. rows_seen (record new { hidden = c.show_behind.ensures.hidden i; add = c.take_behind.ensures.gone i; remove = c.show_behind.ensures.remove i; revive = c.clear.ensures.items i }))
          ∙ dropped_seen p c.requires c.take_behind.new.rows c.take_behind.new.indexes.items c.take_behind.ensures.rows c.take_behind.ensures.indexes c.take_behind.ensures.cols;
      held = (λ i. rows_held (record new { hidden = c.show_behind.ensures.hidden i; add = c.take_behind.ensures.gone i; remove = c.show_behind.ensures.remove i; revive = c.clear.ensures.items i }))
          ∙ dropped_held p c.requires c.take_behind.new.rows c.take_behind.new.indexes.items c.take_behind.ensures.rows c.take_behind.ensures.indexes c.take_behind.ensures.cols;
      is_held = (kept_itself p).is_held;
      columns = (kept_itself p).columns;
      cols = c.take_behind.ensures.cols;
    }
