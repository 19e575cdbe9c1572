-- Why the program ended, in words.
use Rattle.std.specs.Prelude.{ℕ, ◌==◌, List, Option, None, Some, codes, if◌then◌else◌}

-- the line for a status, or else what comes further on
abbrev pub for_status : ℕ → ℕ → List ℕ → Option (List ℕ) → Option (List ℕ)
for_status it status line later = if status == it then Some line else later

-- the line that tells why the program ended with this status; none where it ended by itself, or told its usage
abbrev pub cause_line : ℕ → Option (List ℕ)
cause_line status =
    for_status 3 status (codes "view_program: memory ran out")
    (for_status 4 status (codes "view_program: the input cannot be read")
    (for_status 5 status (codes "view_program: the output cannot be written")
    (for_status 6 status (codes "view_program: the store cannot be opened: no such folder, not a store, or in use by another program")
    (for_status 7 status (codes "view_program: the store is damaged, as the line on standard output reports")
    (for_status 8 status (codes "view_program: the input is longer than --max-input allows") None)))))
