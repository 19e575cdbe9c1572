use Rattle.std.proofs.Common.{◌<◌, ◌∙◌, ap, sym, length, get_or, rules, arith, Some}
use Rattle.plain_values.specs.SortedSet as set
use Rattle.revision.proofs.Reached.{LeadsTo, not_there, there}
use Rattle.revision.proofs.first_by_key.first_like.Goals as goal
use Rattle.revision.proofs.first_by_key.first_like.Goals.{In-Some}

led : (c : In-Some) → LeadsTo c.args.cols.now c.args.row.now c.args.rows.now c.in-Some.place.now
led c = there c.args.cols.now c.args.row.now c.in_ok-key.key c.args.rows.now c.args.places.now c.in_ok-key.ensures c.requires c.in-Some.place.now c.in-Some.ensures.value

pub offset_bounds-rows-place : goal.offset_bounds-rows-place
offset_bounds-rows-place c =
    let l : c.in-Some.place.now < length (set.items c.args.rows.now) = (led (goal.at.offset_bounds-rows-place c).In-Some).below in
    let here : c.in-Some.place.now < length c.rows.result.now = omega (arith, l, ap length c.rows.ensures) in
    search rules

pub bounds-rows-place : goal.bounds-rows-place
bounds-rows-place c =
    let l : c.in-Some.place.now < length (set.items c.args.rows.now) = (led (goal.at.bounds-rows-place c).In-Some).below in
    omega (arith, l, ap length c.rows.ensures)

pub returns-in-None : goal.returns-in-None
returns-in-None c = sym (not_there c.args.cols.now c.args.row.now c.in_ok-key.key c.args.rows.now c.args.places.now c.in_ok-key.ensures c.requires c.in-None.ensures.value)

pub returns : goal.returns
returns c =
    let l = c.index-rows-place.result in
    ap Some (c.index-rows-place.is ∙ ap (λ rows. get_or rows c.in-Some.place.now l) c.rows.ensures) ∙ sym ((led (goal.at.returns c).In-Some).first l)
