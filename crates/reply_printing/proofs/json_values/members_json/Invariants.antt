use Rattle.std.proofs.Common.{◌≡◌, length, take}
use Rattle.std.specs.FinMap as finmap
use Rattle.serde_json.specs.View.{members_view}
use Rattle.server_specs.specs.Common.{pairs_data}
use Rattle.reply_printing.proofs.json_values.members_json.Given as goal

abbrev pub invariant-loop-name : goal.invariant-loop-name
invariant-loop-name l = members_view l.members.entries ≡ pairs_data (take (length l.yielded) (finmap.entries l.row))
