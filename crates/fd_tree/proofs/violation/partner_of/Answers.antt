use Rattle.std.proofs.Common.{◌<◌, ◌∙◌, sym, ap, length, get_or, arith, rules}
use Rattle.std.specs.FinMap as map
use Rattle.plain_values.proofs.Common.{get_or_default}
use Rattle.lens_specs.specs.Common.{agree}
use Rattle.fd_tree.proofs.Places.{next_agrees, next_clashes, next_finds, none_after}
use Rattle.fd_tree.proofs.violation.partner_of.Goals as goal
use Rattle.fd_tree.proofs.violation.partner_of.Goals.{After-index-rows-place}

below : (c : After-index-rows-place) → c.in-Some.next < length c.args.rows.now
below c = (next_finds c.args.edge.now c.args.rows.now c.args.partners.now c.args.place c.requires.place c.requires.next c.index-rows-place.result c.index-rows-place.is c.in-Some.next c.in-Some.is).below

pub offset_bounds-rows-next : goal.offset_bounds-rows-next
offset_bounds-rows-next c = let l : c.in-Some.next < length c.args.rows.now = below c in search rules

pub bounds-rows-next : goal.bounds-rows-next
bounds-rows-next c = below c

pub offset_bounds-partners-next : goal.offset_bounds-partners-next
offset_bounds-partners-next c =
    let l : c.in-Some.next < length c.args.partners.now = omega (arith, below (goal.at.offset_bounds-partners-next c).After-index-rows-place, c.requires.len) in
    search rules

pub bounds-partners-next : goal.bounds-partners-next
bounds-partners-next c = omega (arith, below (goal.at.bounds-partners-next c).After-index-rows-place, c.requires.len)

pub returns-in-None : goal.returns-in-None
returns-in-None c =
    let rows = c.args.rows.now in
    none_after c.args.edge.now rows c.args.partners.now c.args.place c.requires.place c.requires.next (get_or rows c.args.place map.empty)
    (get_or_default rows c.args.place map.empty (get_or rows c.args.place map.empty) c.requires.place) c.in-None.is

pub returns-then-agree_on : goal.returns-then-agree_on
returns-then-agree_on c =
    let e = c.args.edge.now in
    let r = c.index-rows-place.result in
    let x = c.index-rows-next.result in
    next_agrees e c.args.rows.now c.args.partners.now c.args.place c.requires.place c.requires.next r c.index-rows-place.is c.in-Some.next x c.in-Some.is c.index-rows-next.is
    (sym (c.agree_on.ensures ∙ ap (λ d. agree d.right r x) c.edge.view_is) ∙ c.if-agree_on.true) c.requires.later

pub returns-else-agree_on : goal.returns-else-agree_on
returns-else-agree_on c =
    let e = c.args.edge.now in
    let r = c.index-rows-place.result in
    let x = c.index-rows-next.result in
    next_clashes e c.args.rows.now c.args.partners.now c.args.place c.requires.place c.requires.next r c.index-rows-place.is c.in-Some.next x c.in-Some.is c.index-rows-next.is
    (sym (c.agree_on.ensures ∙ ap (λ d. agree d.right r x) c.edge.view_is) ∙ c.if-agree_on.false)
