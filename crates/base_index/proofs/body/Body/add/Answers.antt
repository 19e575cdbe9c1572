use Rattle.std.proofs.Common.{◌++◌, ◌∷◌, [], ap, sym, ◌∙◌, subst}
use Rattle.key_index.proofs.Common.{IsTableOf}
use Rattle.base_index.specs.Parts.{IsWhole, parts_of, rows_held, rows_next, rows_seen}
use Rattle.base_index.proofs.Bodies.{either_ways, kept_itself, on_both}
use Rattle.base_index.proofs.Staging.{back_next, back_whole, not_there, reindexed, row_held, row_next, row_seen, row_whole}
use Rattle.base_index.proofs.body.Body.add.Goals as goal

pub returns-then-has-clause-whole : goal.returns-then-has-clause-whole
returns-then-has-clause-whole c =
    let p = parts_of c.args.self.now in
    let list = c.in_ok-push.ensures.items ∙ ap (λ r. p.revive ++ r ∷ []) c.in_ok-copy.ensures in
    subst IsWhole (sym (λ i. record p { revive = list i }))
    (back_whole p c.requires.whole c.args.row.now (c.requires.whole.hidden_there c.args.row.now (sym c.has.ensures ∙ c.if-has.true)) c.requires.unseen c.requires.absent)

pub returns-then-has-clause-next : goal.returns-then-has-clause-next
returns-then-has-clause-next c =
    let p = parts_of c.args.self.now in
    let list = c.in_ok-push.ensures.items ∙ ap (λ r. p.revive ++ r ∷ []) c.in_ok-copy.ensures in
    (λ i. rows_next (record p { revive = list i }))
    ∙ back_next p c.requires.whole c.args.row.now (c.requires.whole.hidden_there c.args.row.now (sym c.has.ensures ∙ c.if-has.true)) c.requires.unseen c.requires.absent

pub add_row-requires-clause-absent : goal.add_row-requires-clause-absent
add_row-requires-clause-absent c = not_there (parts_of c.args.self.now) c.requires.whole c.args.row.now c.requires.unseen c.requires.absent (sym c.has.ensures ∙ c.if-has.false)

pub returns-clause-whole : goal.returns-clause-whole
returns-clause-whole c =
    let p = parts_of c.args.self.now in
    either_ways c.add_row.result c.add_row.ensures.ok c.add_row.ensures.listed c.add_row.ensures.err c.add_row.ensures.unlisted
    (λ rows listed. subst IsWhole (sym (λ i. record p { rows = rows i; indexes = c.add_row.new.indexes.items; add = c.add_row.new.added.items }))
    (row_whole p c.requires.whole c.args.row.now c.add_row.new.indexes.items c.add_row.new.added.items listed (subst (λ r. IsTableOf r c.add_row.new.indexes.items) rows c.add_row.ensures.table) c.add_row.ensures.cols c.requires.fits (not_there p c.requires.whole c.args.row.now c.requires.unseen c.requires.absent (sym c.has.ensures ∙ c.if-has.false))))
    (λ rows list. subst IsWhole (sym (λ i. record p { rows = rows i; indexes = c.add_row.new.indexes.items; add = list i }))
    (reindexed p c.requires.whole c.add_row.new.indexes.items (subst (λ r. IsTableOf r c.add_row.new.indexes.items) rows c.add_row.ensures.table) c.add_row.ensures.cols))

pub returns-clause-next : goal.returns-clause-next
returns-clause-next c =
    let p = parts_of c.args.self.now in
    on_both c.add_row.result c.add_row.ensures.ok c.add_row.ensures.listed (λ rows listed. (λ i. rows_next (record p { rows = rows i; indexes = c.add_row.new.indexes.items; add = c.add_row.new.added.items })) ∙ row_next p c.requires.whole c.args.row.now c.add_row.new.indexes.items c.add_row.new.added.items listed (subst (λ r. IsTableOf r c.add_row.new.indexes.items) rows c.add_row.ensures.table) c.add_row.ensures.cols c.requires.fits (not_there p c.requires.whole c.args.row.now c.requires.unseen c.requires.absent (sym c.has.ensures ∙ c.if-has.false)))

pub returns-clause-kept : goal.returns-clause-kept
returns-clause-kept c =
    let p = parts_of c.args.self.now in
    either_ways c.add_row.result c.add_row.ensures.ok c.add_row.ensures.listed c.add_row.ensures.err c.add_row.ensures.unlisted
    (λ rows listed. record {
      seen = (λ i. rows_seen (record p { rows = rows i; indexes = c.add_row.new.indexes.items; add = c.add_row.new.added.items })) ∙ row_seen p c.requires.whole c.args.row.now c.add_row.new.indexes.items c.add_row.new.added.items listed (subst (λ r. IsTableOf r c.add_row.new.indexes.items) rows c.add_row.ensures.table) c.add_row.ensures.cols c.requires.fits (not_there p c.requires.whole c.args.row.now c.requires.unseen c.requires.absent (sym c.has.ensures ∙ c.if-has.false));
      held = (λ i. rows_held (record p { rows = rows i; indexes = c.add_row.new.indexes.items; add = c.add_row.new.added.items })) ∙ row_held p c.requires.whole c.args.row.now c.add_row.new.indexes.items c.add_row.new.added.items listed (subst (λ r. IsTableOf r c.add_row.new.indexes.items) rows c.add_row.ensures.table) c.add_row.ensures.cols c.requires.fits (not_there p c.requires.whole c.args.row.now c.requires.unseen c.requires.absent (sym c.has.ensures ∙ c.if-has.false));
      is_held = (kept_itself p).is_held;
      columns = (kept_itself p).columns;
      cols = c.add_row.ensures.cols;
    })
    (λ rows list. record {
      seen = λ i. rows_seen (record p { rows = rows i; add = list i });
      held = λ i. rows_held (record p { rows = rows i; add = list i });
      is_held = (kept_itself p).is_held;
      columns = (kept_itself p).columns;
      cols = c.add_row.ensures.cols;
    })
