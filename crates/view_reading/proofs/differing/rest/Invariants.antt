use Rattle.std.proofs.Common.{◌≡◌, take}
use Rattle.view_reading.specs.KnownRows.{unmarked}
use Rattle.view_reading.proofs.differing.rest.Given as goal

abbrev pub invariant-loop-place : goal.invariant-loop-place
invariant-loop-place l = l.rest.items ≡ unmarked (take l.place l.are_parts) (take l.place l.known)
