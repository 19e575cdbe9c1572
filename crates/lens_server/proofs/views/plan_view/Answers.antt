use Rattle.std.proofs.Common.{ap}
use Rattle.request_text.specs.Answers.{answer_view}
use Rattle.database.proofs.Keyed.{can_open}
use Rattle.lens_server.specs.Databases.{lens_of}
use Rattle.lens_server.proofs.NamedViews.{known_planned, unknown_planned}
use Rattle.lens_server.proofs.views.plan_view.Goals as goal

pub open_view-requires : goal.open_view-requires
open_view-requires g c = can_open c.args.database.now c.requires.valid c.requires.keyed

pub returns-in-Some : goal.returns-in-Some
returns-in-Some g c =
    known_planned c.args.asked c.args.name.now (lens_of c.in-Some.opened) c.args.database.now c.plan_opened.result c.args.walked.now c.plan_opened.new.walked c.args.looked.now c.plan_opened.new.looked
    c.in-Some.ensures.known c.plan_opened.ensures

pub returns-in-None : goal.returns-in-None
returns-in-None g c =
    unknown_planned c.args.asked c.args.name.now c.args.database.now c.unchanged.result c.args.walked.now c.args.looked.now
    c.in-None.ensures.known (ap answer_view c.unchanged.ensures.answer) c.unchanged.ensures.staged
