-- Edits of a view.
use Rattle.lens_specs.specs.Common.{Applies, Delta, new_view, Lens, Tables, get, sort_of, Rows, IsOf}
use Rattle.lens_probe.specs.Viewed.{Viewed}

-- the tables that the view is over
abbrev pub over : Viewed → Tables
over v = v.tables.present.relations

-- the rows of the view after the edit
abbrev pub edited : Lens → Tables → Delta → Rows
edited L db d = new_view (get L db) d

-- the difference applies to the view, and the edited view is of the lens's sort
abbrev pub IsEdit : Lens → Tables → Delta → Type 0
IsEdit L db d = Applies d (get L db) × IsOf (edited L db d) (sort_of L)
