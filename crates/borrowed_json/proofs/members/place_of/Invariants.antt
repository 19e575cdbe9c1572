use Rattle.std.proofs.Common.{◌≡◌, ◌≤◌, length, take}
use Rattle.serde_json.specs.Find.{get_member}
use Rattle.borrowed_json.specs.Meaning.{members_data}
use Rattle.borrowed_json.proofs.members.place_of.Given as goal

abbrev pub invariant-loop-left : goal.invariant-loop-left
invariant-loop-left l = record {
  found : get_member l.name (members_data l.members) ≡ get_member l.name (members_data (take l.left l.members));
  within : l.left ≤ length l.members;
}

abbrev pub decreases-loop-left : goal.decreases-loop-left
decreases-loop-left l = l.left
