use Rattle.std.proofs.Common.{◌∷◌, ◌++◌, ◌≡◌, ◌∙◌, [], ap, get_or, rules, sym}
use Rattle.plain_values.proofs.Common.{Row}
use Rattle.drop_delta.specs.Dropped.{filled_in}
use Rattle.drop_delta.proofs.DropLooks.{one_look}
use Rattle.drop_delta.proofs.Filling.{made_more}
use Rattle.drop_delta.proofs.editing.append_filled.Goals as goal

pub filled_row-requires-clause-have : goal.filled_row-requires-clause-have
filled_row-requires-clause-have g c =
    let row = c.in-Some.row.now in
    let here : row ≡ get_or c.args.rows.now c.args.place row = search rules in
    c.requires.have row (c.args.place, search rules, sym here)

pub returns-clause-rows : goal.returns-clause-rows
returns-clause-rows g c = λ so_far.
    let f = filled_in c.args.dropped.now.col.now c.args.dropped.now.by.now c.args.dropped.now.fill.now (g.S.Look.relation c.args.source.now).rows in
    let was = c.args.filled.now.items in
    made_more f c.args.rows.now was _ c.args.place c.in-Some.row.now (search rules) (search rules) so_far
    (c.in_ok-push.ensures.items ∙ ap (λ (row : Row). was ++ row ∷ []) c.in_ok-filled_row.ensures.row)

pub returns-clause-looks : goal.returns-clause-looks
returns-clause-looks g c = λ n w. one_look n c.args.looked.now c.filled_row.new.looked c.args.place c.args.rows.now (search rules) (c.filled_row.ensures.looks n w)

pub returns-in_err-filled_row-clause-looks : goal.returns-in_err-filled_row-clause-looks
returns-in_err-filled_row-clause-looks g c = λ n w. one_look n c.args.looked.now c.filled_row.new.looked c.args.place c.args.rows.now (search rules) (c.filled_row.ensures.looks n w)

pub returns-in_err-push-clause-looks : goal.returns-in_err-push-clause-looks
returns-in_err-push-clause-looks g c = λ n w. one_look n c.args.looked.now c.filled_row.new.looked c.args.place c.args.rows.now (search rules) (c.filled_row.ensures.looks n w)
