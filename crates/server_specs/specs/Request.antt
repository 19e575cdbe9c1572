-- Requests: what a line asks for.
use Rattle.std.specs.Prelude.{ℕ, Bool, true, false, not, List, [], ◌∷◌, nat_eq, codes, find, is_some, Option, Some, None, option_map, option_and_then, unwrap_or, Result, Ok, Err, if◌then◌else◌}
use Rattle.std.specs.List.{list_any}
use Rattle.std.specs.Ordering.{is_lt}
use Rattle.std.specs.Str.{is_utf8}
use Rattle.std.specs.Cmp.Lexicographic.{pointwise}
use Rattle.serde_json.specs.Data.{Data, null, boolean, number, string, array, object, Items, no_items, item, Members, no_members, member}
use Rattle.serde_json.specs.Find as json_find
use Rattle.serde_json.specs.Read as json
use Rattle.plain_values.specs.Bytes.{is_text, is_name}
use Rattle.plain_values.specs.Order.{bytes_cmp}
use Rattle.lens_specs.specs.Relation.{Name}
use Rattle.io_specs.specs.Lines.{Line, line, too_long}
use Rattle.server_specs.specs.Answer.{Answer, long_line, not_json, bad_request}

-- an edit of a batch: the name of the view, the rows to remove and the rows to add
pub record BatchEdit : Type 0 where
  pub view : Name
  pub remove : Items
  pub add : Items

-- A request, with what it asks for: a definition's text; a view's name; a column's name and the value to be found in it; rows that
-- are sent, edits, or rows as CSV; and the version on which a change rests.
pub data Request : Type 0 where
  define : List ℕ → Request
  read : Name → Request
  find_at : Name → Name → Data → Request
  put : Name → Items → Option ℕ → Request
  edit : Name → Items → Items → Option ℕ → Request
  preview : Name → Items → Items → Option ℕ → Request
  describe : Name → Request
  list : Request
  batch : List BatchEdit → Option ℕ → Request
  undo : Request
  export : Name → Request
  import : Name → List ℕ → Option ℕ → Request

-- ---- members

-- the two keys are one
abbrev pub is_key : List ℕ → List ℕ → Bool
is_key = pointwise nat_eq

-- a string that makes a text
abbrev pub text_in : Data → Option (List ℕ)
text_in d = option_and_then (λ bytes. if is_text bytes then Some bytes else None) (json_find.as_str d)

-- a string that makes a name
abbrev pub name_in : Data → Option Name
name_in d = option_and_then (λ bytes. if is_name bytes then Some bytes else None) (json_find.as_str d)

-- a number of 64 bits that is no fraction and not below 0
abbrev pub version_in : Data → Option ℕ
version_in d = option_and_then json_find.as_u64 (json_find.as_number d)

-- what a member has to be
pub data Shape : Type 0 where
  a_word : Shape
  a_text : Shape
  a_name : Shape
  some_rows : Shape
  a_version : Shape
  a_value : Shape
  some_edits : Shape

-- a member of a request: its name, its shape, and whether it has to be there
pub record Wanted : Type 0 where
  pub name : List ℕ
  pub shape : Shape
  pub needed : Bool

-- a member that has to be there
abbrev pub needed : List ℕ → Shape → Wanted
needed name shape = record { name = name; shape = shape; needed = true }

-- a member that may be there
abbrev pub allowed : List ℕ → Shape → Wanted
allowed name shape = record { name = name; shape = shape; needed = false }

-- whether the name is that of a wanted member
abbrev pub is_wanted : List Wanted → List ℕ → Bool
is_wanted ws k = list_any (λ w. is_key k w.name) ws

-- the first member whose name does not pass; the members of an object stand in byte order
abbrev pub first_other : (List ℕ → Bool) → Members → Option (List ℕ)
first_other passes no_members = None
first_other passes (member k d ms) = if passes k then first_other passes ms else Some k

-- ---- the edits of a batch

-- the members of an edit
abbrev pub batch_edit_members : List Wanted
batch_edit_members = needed (codes "add") some_rows ∷ needed (codes "remove") some_rows ∷ needed (codes "view") a_name ∷ []

-- the edit, where each member is there and of its shape
abbrev pub edit_with : Option Name → Option Items → Option Items → Option BatchEdit
edit_with (Some view) (Some remove) (Some add) = Some (record { view = view; remove = remove; add = add })
edit_with (Some view) (Some remove) None = None
edit_with (Some view) None add = None
edit_with None remove add = None

-- the edit that the members say, which are exactly these three
abbrev pub edit_of_members : Members → Option BatchEdit
edit_of_members ms =
    if is_some (first_other (is_wanted batch_edit_members) ms) then None
    else edit_with (option_and_then name_in (json_find.get_member (codes "view") ms))
    (option_and_then json_find.as_array (json_find.get_member (codes "remove") ms))
    (option_and_then json_find.as_array (json_find.get_member (codes "add") ms))

-- the edit that the data says
abbrev pub batch_edit_in : Data → Option BatchEdit
batch_edit_in null = None
batch_edit_in (boolean b) = None
batch_edit_in (number n) = None
batch_edit_in (string bytes) = None
batch_edit_in (array ds) = None
batch_edit_in (object ms) = edit_of_members ms

-- the edit in front of the others
abbrev pub with_edit : Option BatchEdit → Option (List BatchEdit) → Option (List BatchEdit)
with_edit None others = None
with_edit (Some e) None = None
with_edit (Some e) (Some edits) = Some (e ∷ edits)

-- each of the edits
abbrev pub each_edit : Items → Option (List BatchEdit)
each_edit no_items = Some []
each_edit (item d ds) = with_edit (batch_edit_in d) (each_edit ds)

-- the edits that an array says
abbrev pub edits_in : Data → Option (List BatchEdit)
edits_in d = option_and_then each_edit (json_find.as_array d)

-- ---- shapes

-- whether the data is of the shape
abbrev pub has_shape : Shape → Data → Bool
has_shape a_word d = is_some (json_find.as_str d)
has_shape a_text d = is_some (text_in d)
has_shape a_name d = is_some (name_in d)
has_shape some_rows d = is_some (json_find.as_array d)
has_shape a_version d = is_some (version_in d)
has_shape a_value d = true
has_shape some_edits d = is_some (edits_in d)

-- ---- the twelve requests

-- what is asked for
pub data Asked : Type 0 where
  to_define : Asked
  to_read : Asked
  to_find : Asked
  to_put : Asked
  to_edit : Asked
  to_preview : Asked
  to_describe : Asked
  to_list : Asked
  to_batch : Asked
  to_undo : Asked
  to_export : Asked
  to_import : Asked

-- the word of each request
abbrev pub asked_by : List ℕ → Option Asked
asked_by word =
    if is_key word (codes "define") then Some to_define
    else if is_key word (codes "read") then Some to_read
    else if is_key word (codes "find") then Some to_find
    else if is_key word (codes "put") then Some to_put
    else if is_key word (codes "edit") then Some to_edit
    else if is_key word (codes "preview") then Some to_preview
    else if is_key word (codes "type") then Some to_describe
    else if is_key word (codes "list") then Some to_list
    else if is_key word (codes "batch") then Some to_batch
    else if is_key word (codes "undo") then Some to_undo
    else if is_key word (codes "export") then Some to_export
    else if is_key word (codes "import") then Some to_import
    else None

-- the members of an edit
abbrev pub edit_members : List Wanted
edit_members =
    needed (codes "add") some_rows ∷ needed (codes "do") a_word ∷ allowed (codes "on") a_version ∷ needed (codes "remove") some_rows ∷ needed (codes "view") a_name ∷ []

-- the members of each request, in byte order of their names
abbrev pub wanted : Asked → List Wanted
wanted to_define = needed (codes "do") a_word ∷ needed (codes "text") a_text ∷ []
wanted to_read = needed (codes "do") a_word ∷ needed (codes "view") a_name ∷ []
wanted to_find =
    needed (codes "column") a_name ∷ needed (codes "do") a_word ∷ needed (codes "value") a_value ∷ needed (codes "view") a_name ∷ []
wanted to_put = needed (codes "do") a_word ∷ allowed (codes "on") a_version ∷ needed (codes "rows") some_rows ∷ needed (codes "view") a_name ∷ []
wanted to_edit = edit_members
wanted to_preview = edit_members
wanted to_describe = needed (codes "do") a_word ∷ needed (codes "view") a_name ∷ []
wanted to_list = needed (codes "do") a_word ∷ []
wanted to_batch = needed (codes "do") a_word ∷ needed (codes "edits") some_edits ∷ allowed (codes "on") a_version ∷ []
wanted to_undo = needed (codes "do") a_word ∷ []
wanted to_export = needed (codes "do") a_word ∷ needed (codes "view") a_name ∷ []
wanted to_import = needed (codes "csv") a_word ∷ needed (codes "do") a_word ∷ allowed (codes "on") a_version ∷ needed (codes "view") a_name ∷ []

-- whether a member is missing or of the wrong shape
abbrev pub is_wrong : Members → Wanted → Bool
is_wrong ms w = elim (json_find.get_member w.name ms) [ None ↦ w.needed | Some d ↦ not (has_shape w.shape d) ]

-- the first of the wanted members that is wrong
abbrev pub first_wrong : List Wanted → Members → Option (List ℕ)
first_wrong ws ms = option_map (λ w. w.name) (find (is_wrong ms) ws)

-- the lesser of a name and another, if there is one
abbrev pub least_of : List ℕ → Option (List ℕ) → List ℕ
least_of name None = name
least_of name (Some other) = if is_lt (bytes_cmp other name) then other else name

-- the lesser of two names, where both are there
abbrev pub lesser : Option (List ℕ) → Option (List ℕ) → Option (List ℕ)
lesser None other = other
lesser (Some name) other = Some (least_of name other)

-- the least member that is missing, unknown or of the wrong shape
abbrev pub least_wrong : Asked → Members → Option (List ℕ)
least_wrong a ms = lesser (first_wrong (wanted a) ms) (first_other (is_wanted (wanted a)) ms)

-- ---- what the members of a right request say

-- the text that is there
abbrev pub text_at : List ℕ → Members → List ℕ
text_at k ms = unwrap_or (option_and_then text_in (json_find.get_member k ms)) []

-- the string that is there, of any length
abbrev pub string_at : List ℕ → Members → List ℕ
string_at k ms = unwrap_or (option_and_then json_find.as_str (json_find.get_member k ms)) []

-- the name that is there
abbrev pub name_at : List ℕ → Members → Name
name_at k ms = unwrap_or (option_and_then name_in (json_find.get_member k ms)) []

-- the rows that are there
abbrev pub rows_at : List ℕ → Members → Items
rows_at k ms = unwrap_or (option_and_then json_find.as_array (json_find.get_member k ms)) no_items

-- what is there
abbrev pub data_at : List ℕ → Members → Data
data_at k ms = unwrap_or (json_find.get_member k ms) null

-- the version, if there is one
abbrev pub version_at : List ℕ → Members → Option ℕ
version_at k ms = option_and_then version_in (json_find.get_member k ms)

-- the edits that are there
abbrev pub edits_at : List ℕ → Members → List BatchEdit
edits_at k ms = unwrap_or (option_and_then edits_in (json_find.get_member k ms)) []

-- the request that right members say
abbrev pub said : Asked → Members → Request
said to_define ms = define (text_at (codes "text") ms)
said to_read ms = read (name_at (codes "view") ms)
said to_find ms = find_at (name_at (codes "view") ms) (name_at (codes "column") ms) (data_at (codes "value") ms)
said to_put ms = put (name_at (codes "view") ms) (rows_at (codes "rows") ms) (version_at (codes "on") ms)
said to_edit ms = edit (name_at (codes "view") ms) (rows_at (codes "remove") ms) (rows_at (codes "add") ms) (version_at (codes "on") ms)
said to_preview ms = preview (name_at (codes "view") ms) (rows_at (codes "remove") ms) (rows_at (codes "add") ms) (version_at (codes "on") ms)
said to_describe ms = describe (name_at (codes "view") ms)
said to_list ms = list
said to_batch ms = batch (edits_at (codes "edits") ms) (version_at (codes "on") ms)
said to_undo ms = undo
said to_export ms = export (name_at (codes "view") ms)
said to_import ms = import (name_at (codes "view") ms) (string_at (codes "csv") ms) (version_at (codes "on") ms)

-- the request, where no member is wrong
abbrev pub unless_wrong : Option (List ℕ) → Asked → Members → Result Request Answer
unless_wrong None a ms = Ok (said a ms)
unless_wrong (Some name) a ms = Err (bad_request name)

-- what the members of an object ask for
abbrev pub request_in : Option Asked → Members → Result Request Answer
request_in None ms = Err (bad_request (codes "do"))
request_in (Some a) ms = unless_wrong (least_wrong a ms) a ms

-- the member `do` names the request
abbrev pub asked_in : Members → Option Asked
asked_in ms = option_and_then asked_by (option_and_then json_find.as_str (json_find.get_member (codes "do") ms))

-- a request is an object
abbrev pub request_of : Data → Result Request Answer
request_of null = Err (bad_request (codes "do"))
request_of (boolean b) = Err (bad_request (codes "do"))
request_of (number n) = Err (bad_request (codes "do"))
request_of (string bytes) = Err (bad_request (codes "do"))
request_of (array ds) = Err (bad_request (codes "do"))
request_of (object ms) = request_in (asked_in ms) ms

-- what the bytes are as JSON
abbrev pub json_of : List ℕ → Option Data
json_of bytes = if is_utf8 bytes then json.read bytes else None

-- what JSON asks for, where it is JSON
abbrev pub request_from : Option Data → Result Request Answer
request_from None = Err not_json
request_from (Some d) = request_of d

-- what a line asks for, or its refusal: it is too long, it is no JSON, or a member is wrong
unfoldable pub request : Line → Result Request Answer
request (line bytes) = request_from (json_of bytes)
request too_long = Err long_line
