use Rattle.std.proofs.Common.{◌≡◌, ◌∙◌}
use Rattle.lens_specs.specs.Common.{Delta, diff}
use Rattle.lens_laws.proofs.Common.{rows_of}
use Rattle.drop_delta.specs.Dropped.{edited_source, filled_in}
use Rattle.drop_delta.proofs.DropLooks.{few_are, looks_are}
use Rattle.drop_delta.proofs.Filling.{apart, carried, have, removed_fit}
use Rattle.drop_delta.proofs.editing.drop_delta.Goals as goal

pub filled_sides-requires-clause-removed : goal.filled_sides-requires-clause-removed
filled_sides-requires-clause-removed g c = λ row there k i.
    let R = g.S.Look.relation c.args.source.now in
    let q = c.requires in
    have R.columns c.args.col.now c.args.by.now c.args.fill.now R.rows c.args.delta.now q.column q.within q.apart c.columns.ensures.fit q.decides q.applies q.fit row
    (removed_fit R.columns c.args.col.now c.args.by.now c.args.fill.now R.rows c.args.delta.now q.column q.within q.apart c.columns.ensures.fit q.decides q.applies q.fit row there)
    k i

pub filled_sides-requires-clause-added : goal.filled_sides-requires-clause-added
filled_sides-requires-clause-added g c = λ row there k i.
    let R = g.S.Look.relation c.args.source.now in
    let q = c.requires in
    have R.columns c.args.col.now c.args.by.now c.args.fill.now R.rows c.args.delta.now q.column q.within q.apart c.columns.ensures.fit q.decides q.applies q.fit row (q.fit row there) k i

pub new-requires : goal.new-requires
new-requires g c =
    let R = g.S.Look.relation c.args.source.now in
    let A = c.args.col.now in
    let X = c.args.by.now in
    let a = c.args.fill.now in
    let d = c.args.delta.now in
    let q = c.requires in
    let remove = c.in_ok-filled.filled.remove in
    let add = c.in_ok-filled.filled.add in
    let is : ◌≡◌ {A = Delta} (record { remove = remove; add = add }) (diff R.rows (edited_source R.columns A X a R.rows d)) =
    carried R.columns A X a R.rows d q.column q.within q.apart c.columns.ensures.fit q.decides q.applies q.fit remove add c.in_ok-filled.ensures.remove c.in_ok-filled.ensures.add in
    apart R.rows (edited_source R.columns A X a R.rows d) remove add is

pub returns : goal.returns
returns g c =
    let R = g.S.Look.relation c.args.source.now in
    let A = c.args.col.now in
    let X = c.args.by.now in
    let a = c.args.fill.now in
    let d = c.args.delta.now in
    let q = c.requires in
    let remove = c.in_ok-filled.filled.remove in
    let add = c.in_ok-filled.filled.add in
    let is : ◌≡◌ {A = Delta} (record { remove = remove; add = add }) (diff R.rows (edited_source R.columns A X a R.rows d)) =
    carried R.columns A X a R.rows d q.column q.within q.apart c.columns.ensures.fit q.decides q.applies q.fit remove add c.in_ok-filled.ensures.remove c.in_ok-filled.ensures.add in
    record {
      delta = c.new.ensures ∙ is;
      looks = λ n w. looks_are (rows_of d) n c.args.looked.now c.filled_sides.new.looked (c.columns.ensures.some n w) (c.filled_sides.ensures.looks n w);
      few = λ n w. few_are d c.new.result (filled_in A X a R.rows) remove add n c.new.ensures c.in_ok-filled.ensures.remove c.in_ok-filled.ensures.add (c.columns.ensures.some n w);
    }

pub returns-in_err-filled-clause-looks : goal.returns-in_err-filled-clause-looks
returns-in_err-filled-clause-looks g c = λ n w.
    looks_are (rows_of c.args.delta.now) n c.args.looked.now c.filled_sides.new.looked (c.columns.ensures.some n w) (c.filled_sides.ensures.looks n w)
