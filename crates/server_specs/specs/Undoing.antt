-- What `undo` is answered, and the state after it.
use Rattle.std.specs.Prelude.{◌+◌, ◌-◌, List, length, take, slice_get, Option, Some, None}
use Rattle.lens_specs.specs.Common.{TableDelta, inverted, with_deltas}
use Rattle.server_specs.specs.State.{State, unchanged}
use Rattle.server_specs.specs.Answer.{Answer, changed, nothing_to_undo}
use Rattle.server_specs.specs.Changing.{with_last}

-- the last change is taken back, where there is one
abbrev pub undone : Option (List TableDelta) → State → Answer × State
undone None s = unchanged nothing_to_undo s
undone (Some changes) s = (
  changed (inverted changes) (s.version + 1),
  record s {
    tables = with_deltas (inverted changes) s.tables;
    version = s.version + 1;
    last = with_last (s.version + 1) (inverted changes) s.last;
    past = take (length s.past - 1) s.past;
  },
)

-- what `undo` is answered, and the state after it
abbrev pub undo_answer : State → Answer × State
undo_answer s = undone (slice_get s.past (length s.past - 1)) s
