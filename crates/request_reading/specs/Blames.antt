-- What the faults of members stand for.
use Rattle.std.specs.Prelude.{ℕ, List, Option, Some, None, Result}
use Rattle.request_reading.specs.declared.member_fault.MemberFault.{MemberFault}
use Rattle.request_reading.specs.declared.member_fault.MemberFault.TheVariants as fault
use Rattle.request_reading.specs.Told.{RefusesBy, GivesTold}

-- the member that the fault says is wrong
abbrev pub wrong_member : MemberFault → Option (List ℕ)
wrong_member (fault.Wrong member) = Some member.now
wrong_member fault.NoMemory = None

-- the expected refusal names the wrong member
abbrev pub Refuses : {B : Type 0} → MemberFault → Result B (List ℕ) → Type 0
Refuses f expected = RefusesBy wrong_member f expected

-- the value is the expected one, seen through the view, or the wrong member is the expected one
abbrev pub Finds : {A B : Type 0} → (A → B) → Result A MemberFault → Result B (List ℕ) → Type 0
Finds view found expected = GivesTold view wrong_member found expected
