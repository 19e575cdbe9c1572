use Rattle.std.proofs.Common.{◌≡◌, take}
use Rattle.plain_values.proofs.Common.{keys_of}
use Rattle.request_reading.specs.SentRows.{names_sent}
use Rattle.request_reading.proofs.rows.are_beside.Given as goal

abbrev pub invariant-loop-place : goal.invariant-loop-place
invariant-loop-place l = names_sent (take l.place l.members) ≡ keys_of (take l.place l.columns)
