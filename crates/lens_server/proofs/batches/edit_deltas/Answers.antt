use Rattle.std.proofs.Common.{sym, refl}
use Rattle.std.specs.FinMap as finmap
use Rattle.server_specs.specs.Common.{catalogue, asked_view}
use Rattle.lens_laws.proofs.Common.{fan}
use Rattle.request_text.specs.Edits.{edit_view}
use Rattle.server_specs.specs.Changing as changing
use Rattle.lens_server.specs.Counting.{edit_looks}
use Rattle.lens_server.specs.Databases.{lens_of}
use Rattle.lens_server.proofs.BatchSteps.{edit_gives, edit_opens, edit_unknown}
use Rattle.lens_server.proofs.LooksByName.{at_lens}
use Rattle.lens_server.proofs.NamedViews.{seen_put}
use Rattle.lens_server.proofs.batches.edit_deltas.Goals as goal

pub open_view-requires : goal.open_view-requires
open_view-requires g c = edit_opens c.args.database.now c.requires

pub returns-in-Some-clause-gives : goal.returns-in-Some-clause-gives
returns-in-Some-clause-gives g c =
    let database = c.args.database.now in let o = c.in-Some.opened in let L = lens_of o in let e = edit_view c.args.edit in
    edit_gives database e c.args.on L c.edit.result c.requires c.in-Some.ensures.known
    (seen_put o database c.in-Some.ensures.opened c.edit.result (λ t. asked_view t L (changing.edited e.remove e.add) c.args.on) refl c.edit.ensures.put)

pub returns-in-None-clause-gives : goal.returns-in-None-clause-gives
returns-in-None-clause-gives g c = edit_unknown c.args.database.now (edit_view c.args.edit) c.args.on (sym c.in-None.ensures.known)

pub returns-in-Some-clause-looked : goal.returns-in-Some-clause-looked
returns-in-Some-clause-looked g c =
    let database = c.args.database.now in let db = database.tables.present.relations in let o = c.in-Some.opened in let L = lens_of o in
    at_lens (edit_looks db c.args.edit.remove c.args.edit.add) (finmap.get (catalogue database.catalog.texts) c.args.edit.view) L c.args.looked.now c.edit.new.looked (sym c.in-Some.ensures.known)
    (c.edit.ensures.looks (fan L db) c.in-Some.ensures.opened.finds)
