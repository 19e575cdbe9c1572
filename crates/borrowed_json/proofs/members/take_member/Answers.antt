use Rattle.std.proofs.Common.{◌∙◌, ap, rules}
use Rattle.serde_json.specs.Find.{get_member}
use Rattle.borrowed_json.specs.Meaning.{members_data}
use Rattle.borrowed_json.specs.Places.{IsLast}
use Rattle.borrowed_json.proofs.Found.{others_stay}
use Rattle.borrowed_json.proofs.members.take_member.Goals as goal

pub returns-clause-others : goal.returns-clause-others
returns-clause-others c = λ other apart.
    let xs = c.args.members.now.items in
    let last : IsLast c.args.name.now c.in_ok-place.place xs = search rules in
    let named = last.1 c.remove.result c.remove.ensures.value in
    ap (λ ms. get_member other (members_data ms)) c.remove.ensures.items
    ∙ others_stay other xs c.in_ok-place.place c.remove.result last.0 c.remove.ensures.value (λ same. apart (same ∙ named.0))
