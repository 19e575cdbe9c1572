-- What the faults of rows stand for.
use Rattle.std.specs.Prelude.{◌≡◌, ℕ, List, Option, Some, None, Result, Ok, Err, IfSome, option_map}
use Rattle.plain_values.specs.SortedSet as set
use Rattle.plain_values.specs.Row.{Row}
use Rattle.lens_specs.specs.Relation.{Rows}
use Rattle.server_specs.specs.Sending.{BadRow}
use Rattle.request_reading.specs.declared.member_fault.MemberFault.{MemberFault}
use Rattle.request_reading.specs.declared.rows.RowsFault.{RowsFault}
use Rattle.request_reading.specs.declared.rows.RowsFault.TheVariants as fault
use Rattle.request_reading.specs.Blames.{wrong_member}
use Rattle.request_reading.specs.Told.{RefusesBy, GivesTold}

-- the bad row that the fault tells: its index and its least wrong name
abbrev pub bad_row : RowsFault → Option BadRow
bad_row (fault.BadRow index name) = Some (index, name)
bad_row fault.NoMemory = None

-- the expected refusal is the bad row that the fault tells
abbrev pub TellsRow : {A : Type 0} → RowsFault → Result A BadRow → Type 0
TellsRow f expected = RefusesBy bad_row f expected

-- the value is the expected one, seen through the view, or the bad row is the expected one
abbrev pub GivesRows : {A B : Type 0} → (A → B) → Result A RowsFault → Result B BadRow → Type 0
GivesRows view given expected = GivesTold view bad_row given expected

-- the set of the rows, or the bad row
abbrev pub set_of : Result (List Row) BadRow → Result Rows BadRow
set_of (Ok rows) = Ok (set.from_list rows)
set_of (Err bad) = Err bad

-- it is the fault of the element at this place, or memory ran out
abbrev pub IsAt : RowsFault → ℕ → MemberFault → Type 0
IsAt f index of_element = IfSome (bad_row f) (λ bad. Some bad ≡ option_map (λ name. (index, name)) (wrong_member of_element))
