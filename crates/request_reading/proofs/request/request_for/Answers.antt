use Rattle.std.proofs.Common.{◌≡◌, ◌∙◌, Ok, Err, ap, sym, subst, option_map}
use Rattle.server_specs.specs.Common.{bad_request}
use Rattle.server_specs.specs.Request as spec
use Rattle.borrowed_json.specs.Meaning.{members_data}
use Rattle.request_reading.specs.Requests.{Tells, request_view, said_in}
use Rattle.request_reading.specs.RequestKinds.{is_among, kind_view, names_of}
use Rattle.request_reading.proofs.Said.{answered, answered_is}
use Rattle.request_reading.proofs.request.request_for.Goals as goal

pub returns-in-None : goal.returns-in-None
returns-in-None c =
    let sent = members_data c.args.members.items in
    let unknown : spec.first_other (is_among (names_of (spec.wanted (kind_view c.args.kind)))) sent ≡ option_map (λ name. name.now) c.first_unknown-unknown.result =
    (λ i. spec.first_other (is_among (sym c.member_names.ensures i)) (members_data (sym c.deref.ensures.value i))) ∙ sym c.first_unknown-unknown.ensures in
    sym (answered_is (kind_view c.args.kind) sent c.requires)
    ∙ (λ i. answered (c.in-Ok.ensures i) (unknown i)) ∙ ap (λ o. answered (Ok (request_view c.in-Ok.request)) (option_map (λ name. name.now) o)) c.in-None.is

pub returns-in-Ok : goal.returns-in-Ok
returns-in-Ok c =
    let sent = members_data c.args.members.items in
    let unknown : spec.first_other (is_among (names_of (spec.wanted (kind_view c.args.kind)))) sent ≡ option_map (λ name. name.now) c.first_unknown-unknown.result =
    (λ i. spec.first_other (is_among (sym c.member_names.ensures i)) (members_data (sym c.deref.ensures.value i))) ∙ sym c.first_unknown-unknown.ensures in
    let wrong : spec.unless_wrong (spec.least_wrong (kind_view c.args.kind) sent) (kind_view c.args.kind) sent ≡ Err (bad_request c.in-Some.name.now) =
    sym (answered_is (kind_view c.args.kind) sent c.requires)
    ∙ (λ i. answered (c.in-Ok.ensures i) (unknown i)) ∙ ap (λ o. answered (Ok (request_view c.in-Ok.request)) (option_map (λ name. name.now) o)) c.in-Some.is in
    subst (Tells c.bad_request.result) (sym wrong) c.bad_request.ensures

pub returns-in-Err-Wrong : goal.returns-in-Err-Wrong
returns-in-Err-Wrong c =
    let sent = members_data c.args.members.items in
    let unknown : spec.first_other (is_among (names_of (spec.wanted (kind_view c.args.kind)))) sent ≡ option_map (λ name. name.now) c.first_unknown-unknown.result =
    (λ i. spec.first_other (is_among (sym c.member_names.ensures i)) (members_data (sym c.deref.ensures.value i))) ∙ sym c.first_unknown-unknown.ensures in
    let found : said_in (kind_view c.args.kind) sent ≡ Err c.in-Err-Wrong.member.now = rw c.in-Err-Wrong.field-0-is at c.in-Err-Wrong.ensures in
    let wrong : spec.unless_wrong (spec.least_wrong (kind_view c.args.kind) sent) (kind_view c.args.kind) sent ≡ Err (bad_request c.least_of.result.now) =
    sym (answered_is (kind_view c.args.kind) sent c.requires)
    ∙ (λ i. answered (found i) (unknown i)) ∙ ap (λ n. Err (bad_request n)) (sym c.least_of.ensures) in
    subst (Tells c.bad_request-in-Err-Wrong.result) (sym wrong) c.bad_request-in-Err-Wrong.ensures
