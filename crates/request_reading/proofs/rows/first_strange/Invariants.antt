use Rattle.std.proofs.Common.{◌≡◌, option_map, take}
use Rattle.server_specs.specs.Common.{first_other, is_column_of}
use Rattle.borrowed_json.specs.Meaning.{members_data}
use Rattle.request_reading.proofs.rows.first_strange.Given as goal

abbrev pub invariant-loop-member : goal.invariant-loop-member
invariant-loop-member l = option_map (λ name. name.now) l.first ≡ first_other (is_column_of l.columns) (members_data (take l.member-index l.members))
