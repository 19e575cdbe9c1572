-- The rows of a table with its indexes, a change of them that is staged, and what can be taken back.
use Rattle.std.specs.Prelude.{◌≡◌, ◌≤◌, ℕ, Bool, true, false, if◌then◌else◌, List, [], length, drop, Option, Some, None}
use Rattle.plain_values.specs.SortedSet as set
use Rattle.plain_values.specs.Row.{Row}
use Rattle.lens_specs.specs.Relation.{Columns, Fits, Rows, has}
use Rattle.key_index.specs.Lists.{AreKeyed, IsTableOf, SameCols, rows_of, set_of}
use Rattle.key_index.specs.Marks.{HasMarks}
use Rattle.base_index.specs.declared.body.Body.{Body}
use Rattle.key_index.specs.declared.index.Index.{Index}
use Rattle.key_index.specs.declared.keyed.Keyed.{Keyed}
use Rattle.key_index.specs.declared.marks.Marks.{Marks}

-- the fields, each as what it holds
pub record Parts : Type 0 where
  pub columns : Columns
  pub rows : Rows
  pub hidden : Rows
  pub marks : Marks
  pub indexes : List Index
  pub add : List Keyed
  pub added : ℕ
  pub remove : List Keyed
  pub removed : ℕ
  pub revive : List Row
  pub held : Bool

abbrev pub parts_of : Body → Parts
parts_of b = record {
  columns = b.columns;
  rows = b.rows;
  hidden = b.hidden;
  marks = b.marks;
  indexes = b.indexes.items;
  add = b.add.items;
  added = b.added;
  remove = b.remove.items;
  removed = b.removed;
  revive = b.revive.items;
  held = b.held;
}

-- the rows to be added
abbrev pub to_come : Parts → Rows
to_come p = rows_of (drop p.added p.add)

-- the rows to be removed
abbrev pub to_go : Parts → Rows
to_go p = rows_of (drop p.removed p.remove)

-- the rows that readers see: not those to be added, nor the hidden ones that are gone already
abbrev pub rows_seen : Parts → Rows
rows_seen p = set.difference (set.difference p.rows (to_come p)) (set.difference p.hidden (to_go p))

-- the rows that `settle` makes of them: not those to be removed, nor the hidden ones that stay so
abbrev pub rows_next : Parts → Rows
rows_next p = set.difference (set.difference p.rows (to_go p)) (set.difference p.hidden (set_of p.revive))

-- the rows as they were at `hold`, where they are held: those that no change has added since
abbrev pub rows_held : Parts → Option Rows
rows_held p = if p.held then Some (set.difference p.rows (rows_of p.add)) else None

-- nothing is hidden, and no list has a row of a settled change
pub record IsFree (p : Parts) : Type 0 where
  pub hidden : p.hidden ≡ set.empty
  pub added : p.added ≡ 0
  pub removed : p.removed ≡ 0

-- what always holds of the fields
pub record IsWhole (p : Parts) : Type 0 where
  pub index : IsTableOf p.rows p.indexes
  pub fits : (row : Row) → has p.rows row ≡ true → Fits p.columns row
  pub add : AreKeyed p.indexes p.add
  pub remove : AreKeyed p.indexes p.remove
  pub added : p.added ≤ length p.add
  pub removed : p.removed ≤ length p.remove
  pub hidden_there : (row : Row) → has p.hidden row ≡ true → has p.rows row ≡ true
  pub hidden_old : (row : Row) → has p.hidden row ≡ true → has (to_come p) row ≡ false
  pub hidden_listed : (row : Row) → has p.hidden row ≡ true → has (rows_of p.remove) row ≡ true
  pub hidden_marked : (row : Row) → has p.hidden row ≡ true → HasMarks p.marks p.indexes row
  pub going_there : (row : Row) → has (to_go p) row ≡ true → has p.rows row ≡ true
  pub going_old : (row : Row) → has (to_go p) row ≡ true → has (to_come p) row ≡ false
  pub going_hidden : p.held ≡ true → (row : Row) → has (to_go p) row ≡ true → has p.hidden row ≡ true
  pub back_hidden : (row : Row) → has (set_of p.revive) row ≡ true → has p.hidden row ≡ true
  pub back_stays : (row : Row) → has (set_of p.revive) row ≡ true → has (to_go p) row ≡ false
  pub free : p.held ≡ false → IsFree p

-- nothing is staged
pub record IsCalm (p : Parts) : Type 0 where
  pub add : length p.add ≡ p.added
  pub remove : length p.remove ≡ p.removed
  pub revive : p.revive ≡ []

-- what readers see, what is held, the columns and the columns of the indexes stay
pub record Keeps (old new : Parts) : Type 0 where
  pub seen : rows_seen new ≡ rows_seen old
  pub held : rows_held new ≡ rows_held old
  pub is_held : new.held ≡ old.held
  pub columns : new.columns ≡ old.columns
  pub cols : SameCols old.indexes new.indexes
