use Rattle.std.proofs.Common.{◌≡◌, ◌∙◌, sym, ap, subst, option_map, Some}
use Rattle.borrowed_json.specs.Meaning.{value_data}
use Rattle.server_specs.specs.Common.{request, request_from, json_of}
use Rattle.request_reading.specs.Requests.{Reads}
use Rattle.request_reading.proofs.request.read_request.Goals as goal

pub returns-in-Some : goal.returns-in-Some
unfolding request
returns-in-Some c =
    let is : json_of c.args.line.now ≡ Some (value_data c.in-Some.json) = sym c.in_ok-json.ensures ∙ ap (option_map value_data) c.in-Some.is in
    subst (λ o. Reads c.request_of.result (request_from o)) (sym is) c.request_of.ensures

pub returns-in-None : goal.returns-in-None
unfolding request
returns-in-None c = ap request_from (sym c.in_ok-json.ensures ∙ ap (option_map value_data) c.in-None.is)
