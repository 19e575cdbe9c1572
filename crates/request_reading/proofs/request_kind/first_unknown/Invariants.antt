use Rattle.std.proofs.Common.{◌≡◌, map, option_map, take}
use Rattle.server_specs.specs.Common.{first_other}
use Rattle.borrowed_json.specs.Meaning.{members_data}
use Rattle.request_reading.specs.RequestKinds.{is_among}
use Rattle.request_reading.proofs.request_kind.first_unknown.Given as goal

abbrev pub invariant-loop-member : goal.invariant-loop-member
invariant-loop-member l =
    option_map (λ name. name.now) l.first ≡ first_other (is_among (map (λ name. name.now) l.names)) (members_data (take l.member-index l.members))
