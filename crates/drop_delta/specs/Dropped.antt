-- Relations without one of their columns, and edits of them.
use Rattle.std.specs.Prelude.{◌≡◌, IfSome, None, Option, Some, unwrap_or}
use Rattle.plain_values.specs.Row.{Row}
use Rattle.plain_values.specs.declared.value.Value.{Value}
use Rattle.lens_specs.specs.Common.{Columns, names, Delta, new_view, Name, Names, drop_get, drop_put, Rows, first_row, agree, at, with_at}
use Rattle.drop_delta.specs.declared.editing.Filling.{Filling}
use Rattle.drop_delta.specs.declared.editing.Fillings.{Fillings}

-- the rows of M, which is over U, without the column A, after an edit of them
abbrev pub edited : Columns → Name → Rows → Delta → Rows
edited U A M d = new_view (drop_get (names U) A M) d

-- M after a put of the edited rows
abbrev pub edited_source : Columns → Name → Names → Value → Rows → Delta → Rows
edited_source U A X a M d = drop_put A X a (edited U A M d) M

-- the row's value in the column A, or the default
abbrev pub value_of : Name → Value → Option Row → Value
value_of A a None = a
value_of A a (Some m) = unwrap_or (at m A) a

-- what the first row of M that agrees with this one on X has in the column
abbrev pub filling_for : Name → Names → Value → Rows → Row → Value
filling_for A X a M row = value_of A a (first_row (agree X row) M)

-- the row, filled in by that
abbrev pub filled_in : Name → Names → Value → Rows → Row → Row
filled_in A X a M row = with_at row A (Some (filling_for A X a M row))

-- the filling's value is what fills in its key
abbrev pub Fills : Name → Names → Value → Rows → Filling → Type 0
Fills A X a M filling = filling.value ≡ filling_for A X a M filling.key

-- each of the two fillings, if it is there, fills in its key
abbrev pub BothFill : Name → Names → Value → Rows → Fillings → Type 0
BothFill A X a M fillings = IfSome fillings.last (Fills A X a M) × IfSome fillings.earlier (Fills A X a M)
