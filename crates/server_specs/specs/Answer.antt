-- Answers and their texts.
use Rattle.std.specs.Prelude.{ℕ, true, false, List, [], ◌∷◌, ◌++◌, Option, Some, None, codes}
use Rattle.std.specs.FinMap as finmap
use Rattle.serde_json.specs.Data.{Data, null, boolean, number, string, array, object, unsigned, Items, no_items, item, Members, no_members, member}
use Rattle.serde_json.specs.Find.{of_integer}
use Rattle.serde_json.specs.Written.{compact_text}
use Rattle.plain_values.specs.SortedSet as set
use Rattle.plain_values.specs.declared.value.Value.{Value}
use Rattle.plain_values.specs.declared.value.Value.TheVariants.{Null, Int, Text, Flag}
use Rattle.plain_values.specs.Row.{Row}
use Rattle.plain_values.specs.declared.value.Kind.{Kind}
use Rattle.plain_values.specs.declared.value.Kind.TheVariants as kind
use Rattle.lens_specs.specs.Common.{Name, Names, Columns, Rows, Edge, Predicate, TableDelta, Refusal, tables_limit, views_limit}
use Rattle.lens_specs.specs.Refusal as refusal
use Rattle.lens_specs.specs.Refusal.{Side, left_side, right_side, Limit, columns_limit, lens_limit, predicate_limit, nesting_limit}
use Rattle.grammar_specs.specs.Printing.{printed_formula}
use Rattle.server_specs.specs.EditRefusal as refusals
use Rattle.server_specs.specs.EditRefusal.{EditRefusal}
pub use Rattle.server_specs.specs.EditRefusal.{Listed, in_rows, in_remove, in_add}

-- what was accepted, with the version after it or the present one; or why it is refused
pub data Answer : Type 0 where
  defined : ℕ → Answer
  shown : Rows → ℕ → Answer
  changed : List TableDelta → ℕ → Answer
  described : Columns → List Edge → Predicate → Names → ℕ → Answer
  listed : List (List ℕ) → ℕ → Answer
  memory : Answer
  long_line : Answer
  not_json : Answer
  bad_request : List ℕ → Answer
  syntax : ℕ → Answer
  name_taken : Name → Answer
  unknown_name : Name → Answer
  refused : Refusal → Answer
  bad_row : Listed → ℕ → List ℕ → Answer
  stale : ℕ → ℕ → Answer
  off_predicate : Row → Answer
  clash : Edge → Row → Row → Answer
  in_edit : ℕ → EditRefusal → Answer
  nothing_to_undo : Answer
  exported : List ℕ → ℕ → Answer
  nullable_column : Name → Answer
  bad_record : ℕ → Answer
  store_fault : Answer

-- the answer to a put, an edit, a preview or an import that is refused so
abbrev pub told : EditRefusal → Answer
told (refusals.unknown_name name) = unknown_name name
told (refusals.bad_row which index name) = bad_row which index name
told (refusals.stale changed_at version) = stale changed_at version
told (refusals.off_predicate row) = off_predicate row
told (refusals.clash edge first second) = clash edge first second

-- a value as JSON
abbrev pub value_data : Value → Data
value_data Null = null
value_data (Int z) = number (of_integer z)
value_data (Text bytes) = string bytes
value_data (Flag b) = boolean b

-- the members of these pairs
abbrev pub pairs_data : List (Name × Value) → Members
pairs_data [] = no_members
pairs_data (pair ∷ pairs) = member pair.0 (value_data pair.1) (pairs_data pairs)

-- a row is an object of its columns
abbrev pub row_data : Row → Data
row_data row = object (pairs_data (finmap.entries row))

-- an array of rows
abbrev pub rows_data : List Row → Items
rows_data [] = no_items
rows_data (row ∷ rows) = item (row_data row) (rows_data rows)

-- the difference of one table
abbrev pub change_data : TableDelta → Data
change_data change =
    object (member (codes "add") (array (rows_data (set.items change.delta.add)))
    (member (codes "remove") (array (rows_data (set.items change.delta.remove)))
    (member (codes "table") (string change.table) no_members)))

-- an array of differences
abbrev pub changes_data : List TableDelta → Items
changes_data [] = no_items
changes_data (change ∷ changes) = item (change_data change) (changes_data changes)

-- an array of names
abbrev pub names_data : List Name → Items
names_data [] = no_items
names_data (name ∷ names) = item (string name) (names_data names)

-- a set of names, in rising order
abbrev pub set_data : Names → Data
set_data names = array (names_data (set.items names))

-- the two sides of an edge
abbrev pub edge_data : Edge → Data
edge_data edge = object (member (codes "left") (set_data edge.left) (member (codes "right") (set_data edge.right) no_members))

-- two rows, in order
abbrev pub pair_data : Row → Row → Data
pair_data first second = array (item (row_data first) (item (row_data second) no_items))

-- an array of edges
abbrev pub edges_data : List Edge → Items
edges_data [] = no_items
edges_data (edge ∷ edges) = item (edge_data edge) (edges_data edges)

-- the text of a kind
abbrev pub kind_text : Kind → List ℕ
kind_text kind.Int = codes "int"
kind_text kind.Text = codes "text"
kind_text kind.Flag = codes "bool"
kind_text kind.IntOrNull = codes "int null"
kind_text kind.TextOrNull = codes "text null"
kind_text kind.FlagOrNull = codes "bool null"

-- columns with the texts of their kinds
abbrev pub columns_data : List (Name × Kind) → Members
columns_data [] = no_members
columns_data (column ∷ columns) = member column.0 (string (kind_text column.1)) (columns_data columns)

-- the printed text of each conjunct by itself
abbrev pub conjuncts_data : Predicate → Items
conjuncts_data [] = no_items
conjuncts_data (f ∷ fs) = item (string (printed_formula f)) (conjuncts_data fs)

-- an array of texts
abbrev pub texts_data : List (List ℕ) → Items
texts_data [] = no_items
texts_data (text ∷ texts) = item (string text) (texts_data texts)

-- the number of a refusal, and more members
abbrev pub numbered : ℕ → Members → Members
numbered n more = member (codes "error") (number (unsigned n)) more

-- a refusal: its number, and more members
abbrev pub error : ℕ → Members → Data
error n more = object (numbered n more)

-- `ok` false, and more members
abbrev pub not_ok : Members → Members
not_ok more = member (codes "ok") (boolean false) more

-- the version at the end
abbrev pub at_version : ℕ → Members
at_version version = member (codes "version") (number (unsigned version)) no_members

-- `ok` true, and the version
abbrev pub accepted : ℕ → Members
accepted version = member (codes "ok") (boolean true) (at_version version)

-- the member that holds the list
abbrev pub list_word : Listed → List ℕ
list_word in_rows = codes "rows"
list_word in_remove = codes "remove"
list_word in_add = codes "add"

-- the word of a side of a join
abbrev pub side_word : Side → List ℕ
side_word left_side = codes "left"
side_word right_side = codes "right"

-- the word of a limit
abbrev pub limit_word : Limit → List ℕ
limit_word columns_limit = codes "columns"
limit_word lens_limit = codes "lens"
limit_word predicate_limit = codes "predicate"
limit_word nesting_limit = codes "nesting"
limit_word tables_limit = codes "tables"
limit_word views_limit = codes "views"

-- a refusal that names a table or a column as `name`
abbrev pub error_with_name : ℕ → Name → Data
error_with_name n name = error n (member (codes "name") (string name) (not_ok no_members))

-- a refusal that names a column as `col`
abbrev pub error_with_column : ℕ → Name → Data
error_with_column n name = object (member (codes "col") (string name) (numbered n (not_ok no_members)))

-- a refusal of a definition, 23 to 35, as JSON
abbrev pub refusal_data : Refusal → Data
refusal_data (refusal.unknown_column name) = error_with_name 23 name
refusal_data (refusal.kind_clash name) = error_with_name 24 name
refusal_data (refusal.not_tree a b) = object (member (codes "a") (set_data a) (member (codes "b") (set_data b) (numbered 25 (not_ok no_members))))
refusal_data (refusal.predicate_kind name) = error_with_name 26 name
refusal_data (refusal.source_mentions_output name) = error_with_column 27 name
refusal_data (refusal.no_such_dependency name) = error_with_column 28 name
refusal_data (refusal.mixed_conjunct index) = error 29 (member (codes "index") (number (unsigned index)) (not_ok no_members))
refusal_data refusal.default_refused = error 30 (not_ok no_members)
refusal_data (refusal.not_determined name) = error_with_column 31 name
refusal_data (refusal.side_mentions_output side name) =
    object (member (codes "col") (string name) (numbered 32 (not_ok (member (codes "side") (string (side_word side)) no_members))))
refusal_data (refusal.table_twice name) = error_with_name 33 name
refusal_data (refusal.too_large what) = error 34 (not_ok (member (codes "what") (string (limit_word what)) no_members))
refusal_data (refusal.column_taken name) = error_with_name 35 name

-- the place of the edit in its batch, if it is one of a batch, and more members
abbrev pub in_batch : Option ℕ → Members → Members
in_batch None more = more
in_batch (Some edit) more = member (codes "edit") (number (unsigned edit)) more

-- why an edit is refused, as JSON; the members stand in byte order
abbrev pub refused_edit_data : Option ℕ → EditRefusal → Data
refused_edit_data edit (refusals.unknown_name name) = object (in_batch edit (numbered 22 (member (codes "name") (string name) (not_ok no_members))))
refused_edit_data edit (refusals.bad_row which index name) =
    object (member (codes "col") (string name) (in_batch edit (numbered 40 (member (codes "index") (number (unsigned index))
    (member (codes "list") (string (list_word which)) (not_ok no_members))))))
refused_edit_data edit (refusals.stale changed_at version) =
    object (member (codes "changed_at") (number (unsigned changed_at)) (in_batch edit (numbered 41 (not_ok (at_version version)))))
refused_edit_data edit (refusals.off_predicate row) = object (in_batch edit (numbered 42 (not_ok (member (codes "row") (row_data row) no_members))))
refused_edit_data edit (refusals.clash edge first second) =
    object (member (codes "edge") (edge_data edge) (in_batch edit (numbered 43 (not_ok (member (codes "rows") (pair_data first second) no_members)))))

-- an answer as JSON; the members stand in byte order
abbrev pub answer_data : Answer → Data
answer_data (defined version) = object (accepted version)
answer_data (shown rows version) = object (member (codes "ok") (boolean true) (member (codes "rows") (array (rows_data (set.items rows))) (at_version version)))
answer_data (changed changes version) = object (member (codes "changed") (array (changes_data changes)) (accepted version))
answer_data (described columns edges conjuncts tables version) =
    object (member (codes "columns") (object (columns_data (finmap.entries columns)))
    (member (codes "dependencies") (array (edges_data edges))
    (member (codes "ok") (boolean true)
    (member (codes "predicate") (array (conjuncts_data conjuncts))
    (member (codes "tables") (set_data tables) (at_version version))))))
answer_data (listed texts version) = object (member (codes "definitions") (array (texts_data texts)) (accepted version))
answer_data memory = error 1 (not_ok no_members)
answer_data long_line = error 10 (not_ok no_members)
answer_data not_json = error 11 (not_ok no_members)
answer_data (bad_request name) = error 12 (member (codes "member") (string name) (not_ok no_members))
answer_data (syntax at) = object (member (codes "at") (number (unsigned at)) (numbered 20 (not_ok no_members)))
answer_data (name_taken name) = error_with_name 21 name
answer_data (unknown_name name) = refused_edit_data None (refusals.unknown_name name)
answer_data (refused refusal) = refusal_data refusal
answer_data (bad_row which index name) = refused_edit_data None (refusals.bad_row which index name)
answer_data (stale changed_at version) = refused_edit_data None (refusals.stale changed_at version)
answer_data (off_predicate row) = refused_edit_data None (refusals.off_predicate row)
answer_data (clash edge first second) = refused_edit_data None (refusals.clash edge first second)
answer_data (in_edit edit why) = refused_edit_data (Some edit) why
answer_data nothing_to_undo = error 44 (not_ok no_members)
answer_data (exported csv version) = object (member (codes "csv") (string csv) (accepted version))
answer_data (nullable_column name) = error_with_column 46 name
answer_data (bad_record place) = error 45 (not_ok (member (codes "record") (number (unsigned place)) no_members))
answer_data store_fault = error 90 (not_ok no_members)

-- the line of an answer: compact JSON and a newline
unfoldable pub text : Answer → List ℕ
text answer = compact_text (answer_data answer) ++ 10 ∷ []
