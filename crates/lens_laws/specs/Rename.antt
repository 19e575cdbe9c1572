-- A rename: what an edit does to its source, and what the node asks.
use Rattle.std.specs.Prelude.{◌≡◌, true, false}
use Rattle.plain_values.specs.SortedSet as set
use Rattle.lens_specs.specs.Common.{Name, names, Delta, rename_put, renamed_row, renamed_columns, renamed_tree}
use Rattle.lens_laws.specs.Shapes.{Shape}
use Rattle.fd_laws.specs.Trees.{EdgesWithin}

-- what an edit of a rename does to its source
unfoldable pub rename_delta : Name → Name → Delta → Delta
rename_delta A B d = record { remove = rename_put A B d.remove; add = rename_put A B d.add }

-- A is a column and B none, and the edges look at columns alone
pub record CanRename (s : Shape) (A B : Name) : Type 0 where
  pub column : set.contains (names s.columns) A ≡ true
  pub free : set.contains (names s.columns) B ≡ false
  pub within : EdgesWithin (names s.columns) s.tree

-- the shape under a rename: a row passes where it did before
abbrev pub rename_shape : Shape → Name → Name → Shape
rename_shape s A B = record { columns = renamed_columns A B s.columns; holds = λ r. s.holds (renamed_row B A r); tree = renamed_tree A B s.tree }
