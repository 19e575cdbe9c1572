-- Selections, and edits of them.
use Rattle.std.specs.Prelude.{List, map, not}
use Rattle.plain_values.specs.SortedSet as set
use Rattle.lens_specs.specs.Common.{Columns, Delta, new_view, Edge, select_get, select_put, Predicate, holds, Rows, those, union}
use Rattle.lens_laws.specs.Shapes.{IsIn}
use Rattle.revision.specs.declared.touching.Touched.{Touched}

-- the rows of M that P holds on, after an edit of them
abbrev pub edited : Predicate → Rows → Delta → Rows
edited P M d = new_view (select_get (holds P) M) d

-- M after a put of the edited selection
abbrev pub edited_source : List Edge → Predicate → Rows → Delta → Rows
edited_source T P M d = select_put T (holds P) (edited P M d) M

-- rows over the columns that P holds on, which meet the tree
abbrev pub AreSelected : Columns → List Edge → Predicate → Rows → Type 0
AreSelected U T P N = IsIn N (record { columns = U; holds = holds P; tree = T })

-- the edit, with these rows that P hides: each goes, and what it becomes comes if P hides that too
abbrev pub with_touched : Predicate → List Touched → Delta → Delta
with_touched P changes d = record {
  remove = union d.remove (set.from_list (map (λ t. t.before) changes));
  add = union d.add (those (λ row. not (holds P row)) (set.from_list (map (λ t. t.after) changes)));
}
