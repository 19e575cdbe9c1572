use Rattle.std.proofs.Common.{◌≡◌, ◌≤◌, ℕ}
use Rattle.plain_values.proofs.Common.{IfOk-weaker}
use Rattle.lens_specs.specs.Common.{diff, new_view, get, view_names, drop_get, drop_put}
use Rattle.lens_laws.specs.KeyedDeltas as keyed
use Rattle.lens_laws.proofs.Common.{rows_down, rows_of, size}
use Rattle.lens_probe.specs.Viewed.{FindsAtMost, IsWithin}
use Rattle.lens_chain.specs.Edits.{IsEdit, over}
use Rattle.lens_chain.proofs.EditLooks.{within_size}
use Rattle.lens_chain.proofs.Premises.{drop_applies, drop_apart, drop_carried, drop_decides, drop_fit, drop_some, drop_within}
use Rattle.lens_chain.proofs.nodes.under_drop.Goals as goal

pub drop_delta-requires-clause-some : goal.drop_delta-requires-clause-some
drop_delta-requires-clause-some g c = drop_some c.args.col.now c.args.by.now c.args.fill.now c.args.source.now.lens c.requires.typed c.requires.viewed.1.keys

pub drop_delta-requires-clause-within : goal.drop_delta-requires-clause-within
drop_delta-requires-clause-within g c = drop_within c.args.col.now c.args.by.now c.args.fill.now c.args.source.now.lens c.requires.typed

pub drop_delta-requires-clause-apart : goal.drop_delta-requires-clause-apart
drop_delta-requires-clause-apart g c = drop_apart c.args.col.now c.args.by.now c.args.fill.now c.args.source.now.lens c.requires.typed

pub drop_delta-requires-clause-decides : goal.drop_delta-requires-clause-decides
drop_delta-requires-clause-decides g c =
    let v = c.args.source.now in
    drop_decides c.args.col.now c.args.by.now c.args.fill.now v.lens c.requires.typed (over v) c.requires.viewed.1.tables

pub drop_delta-requires-clause-applies : goal.drop_delta-requires-clause-applies
drop_delta-requires-clause-applies g c =
    let v = c.args.source.now in
    drop_applies c.args.col.now c.args.by.now c.args.fill.now v.lens c.requires.typed (over v) c.args.delta.now c.requires.viewed.1.tables c.requires.edit

pub drop_delta-requires-clause-fit : goal.drop_delta-requires-clause-fit
drop_delta-requires-clause-fit g c =
    let v = c.args.source.now in
    drop_fit c.args.col.now c.args.by.now c.args.fill.now v.lens c.requires.typed (over v) c.args.delta.now c.requires.viewed.1.tables c.requires.edit

pub returns-clause-change : goal.returns-clause-change
returns-clause-change g c =
    let v = c.args.source.now in
    let A = c.args.col.now in let X = c.args.by.now in let a = c.args.fill.now in
    let M = get v.lens (over v) in
    IfOk-weaker c.drop_delta.result (λ change. change ≡ diff M (drop_put A X a (new_view (drop_get (view_names v.lens) A M) c.args.delta.now) M)) (λ change. change ≡ keyed.drop_delta A X a M c.args.delta.now)
    (λ change is. (drop_carried A X a v.lens c.requires.typed (over v) c.args.delta.now c.requires.viewed.1.tables c.requires.edit change is).0)
    c.drop_delta.ensures.delta

pub returns-clause-edit : goal.returns-clause-edit
returns-clause-edit g c =
    let v = c.args.source.now in
    let A = c.args.col.now in let X = c.args.by.now in let a = c.args.fill.now in
    let M = get v.lens (over v) in
    IfOk-weaker c.drop_delta.result (λ change. change ≡ diff M (drop_put A X a (new_view (drop_get (view_names v.lens) A M) c.args.delta.now) M)) (λ change. IsEdit v.lens (over v) change)
    (λ change is. (drop_carried A X a v.lens c.requires.typed (over v) c.args.delta.now c.requires.viewed.1.tables c.requires.edit change is).1)
    c.drop_delta.ensures.delta

pub returns-clause-looks : goal.returns-clause-looks
returns-clause-looks g c = λ w few.
    let v = c.args.source.now in
    c.drop_delta.ensures.looks (size v.lens w) (within_size v w few)

pub returns-clause-few : goal.returns-clause-few
returns-clause-few g c =
    let v = c.args.source.now in
    IfOk-weaker c.drop_delta.result
    (λ change. (n : ℕ) → IsWithin v n → rows_of change ≤ rows_down (rows_of c.args.delta.now) n)
    (λ change. (w : ℕ) → FindsAtMost v w → rows_of change ≤ rows_down (rows_of c.args.delta.now) (size v.lens w))
    (λ change all w few. all (size v.lens w) (within_size v w few))
    c.drop_delta.ensures.few
