-- How a table lies in its fields.
use Rattle.std.specs.Prelude.{◌≡◌, ◌≤◌, true, take, length}
use Rattle.plain_values.specs.SortedSet as set
use Rattle.key_index.specs.Lists.{cols_of}
use Rattle.base_index.specs.Parts as parts
use Rattle.base_index.specs.Parts.{parts_of, rows_held, rows_next, rows_seen}
use Rattle.base_index.specs.Stored.{Stored}
use Rattle.base_index.specs.declared.table.Table.TheInside.{Inside}

-- what the fields stand for
abbrev pub stored_of : Inside → Stored
stored_of t = record {
  name = t.name;
  columns = t.body.columns;
  rows = rows_seen (parts_of t.body);
  indexes = take t.shown (cols_of t.body.indexes.items);
  next_rows = rows_next (parts_of t.body);
  next_indexes = cols_of t.body.indexes.items;
  held = rows_held (parts_of t.body);
}

-- what always holds of the fields
pub record IsWhole (t : Inside) : Type 0 where
  pub body : parts.IsWhole (parts_of t.body)
  pub shown : t.shown ≤ length t.body.indexes.items
  pub held : t.body.held ≡ true → t.shown ≡ length t.body.indexes.items
  pub count : t.count ≡ length (set.items (rows_seen (parts_of t.body)))
