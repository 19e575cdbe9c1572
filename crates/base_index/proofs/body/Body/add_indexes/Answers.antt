use Rattle.std.proofs.Common.{◌≤◌, ◌+◌, ap, ◌∙◌, subst}
use Rattle.key_index.proofs.Common.{cols_of, on_ok}
use Rattle.base_index.specs.Need.{rows_walked}
use Rattle.base_index.specs.Parts.{parts_of}
use Rattle.base_index.proofs.Bodies.{calm_seen, more_whole}
use Rattle.base_index.proofs.body.Body.add_indexes.Goals as goal

pub returns-clause-whole : goal.returns-clause-whole
returns-clause-whole g c = more_whole (parts_of c.args.self.now) c.requires.whole c.requires.calm c.requires.free c.add_indexes.new.indexes.items c.add_indexes.ensures.table

pub returns-clause-walked : goal.returns-clause-walked
returns-clause-walked g c =
    let p = parts_of c.args.self.now in
    on_ok c.add_indexes.result (λ is. is
    ∙ ap (λ rows. c.args.walked.now + rows_walked c.args.table.now c.args.needs.now (cols_of p.indexes) rows) (calm_seen p c.requires.whole c.requires.calm c.requires.free)) c.add_indexes.ensures.walked

pub returns-clause-walked_at_most : goal.returns-clause-walked_at_most
returns-clause-walked_at_most g c =
    let p = parts_of c.args.self.now in
    subst (λ rows. c.add_indexes.new.walked ≤ c.args.walked.now + rows_walked c.args.table.now c.args.needs.now (cols_of p.indexes) rows)
    (calm_seen p c.requires.whole c.requires.calm c.requires.free) c.add_indexes.ensures.walked_at_most
