-- Values as they stand in a database, and what a column holds where something stands there.
use Rattle.std.specs.Prelude.{◌≡◌, ◌==◌, ℕ, ℤ, pos, Bool, true, false, List, [], ◌∷◌, length, Option, Some, None, ◌&&◌, if◌then◌else◌}
use Rattle.std.specs.Ordering.{int_eq}
use Rattle.std.specs.Str.{is_utf8}
use Rattle.plain_values.specs.Bytes.{is_text}
use Rattle.plain_values.specs.Value.{fits, is_null, is_nullable}
use Rattle.plain_values.specs.declared.value.Kind.{Kind}
use Rattle.plain_values.specs.declared.value.Kind.TheVariants as kind
use Rattle.plain_values.specs.declared.value.Value.{Value}
use Rattle.plain_values.specs.declared.value.Value.TheVariants.{Null, Int, Text, Flag}
use Rattle.sqlite_value.specs.declared.value.Value.{Value as Cell}
use Rattle.sqlite_value.specs.declared.value.Value.TheVariants as cell

-- what stands for null in a column of this kind: 0 or the empty text
abbrev pub empty_cell : Kind → Cell
empty_cell kind.Int = cell.Int (pos 0)
empty_cell kind.Text = cell.Text []
empty_cell kind.Flag = cell.Int (pos 0)
empty_cell kind.IntOrNull = cell.Int (pos 0)
empty_cell kind.TextOrNull = cell.Text []
empty_cell kind.FlagOrNull = cell.Int (pos 0)

-- what stands for a value in a column of this kind: for a truth value 0 or 1
abbrev pub cell_of : Kind → Value → Cell
cell_of k Null = empty_cell k
cell_of k (Int n) = cell.Int n
cell_of k (Text t) = cell.Text t
cell_of k (Flag b) = cell.Int (if b then pos 1 else pos 0)

-- the mark of a value: 1 for null
abbrev pub mark_of : Value → Cell
mark_of v = cell.Int (if is_null v then pos 1 else pos 0)

-- what stands for a value in a column of this kind, and its mark where the kind takes null
abbrev pub cells_at : Kind → Value → List Cell
cells_at k v = if is_nullable k then cell_of k v ∷ mark_of v ∷ [] else cell_of k v ∷ []

-- what a number stands for in a column of truth values: another one than 0 and 1 for itself
abbrev pub flag_of : ℤ → Value
flag_of n = if int_eq n (pos 0) then Flag false else (if int_eq n (pos 1) then Flag true else Int n)

-- what a number stands for in a column of this kind
abbrev pub number_in : Kind → ℤ → Option Value
number_in kind.Int n = Some (Int n)
number_in kind.Flag n = Some (flag_of n)
number_in kind.Text n = None
number_in kind.IntOrNull n = Some (Int n)
number_in kind.FlagOrNull n = Some (flag_of n)
number_in kind.TextOrNull n = None

-- what bytes of text stand for in a column of this kind
abbrev pub text_in : Kind → List ℕ → Option Value
text_in kind.Text bytes = if is_utf8 bytes && is_text bytes then Some (Text bytes) else None
text_in kind.Int bytes = None
text_in kind.Flag bytes = None
text_in kind.TextOrNull bytes = if is_utf8 bytes && is_text bytes then Some (Text bytes) else None
text_in kind.IntOrNull bytes = None
text_in kind.FlagOrNull bytes = None

-- what stands for a value of this kind, if it can be read
abbrev pub value_in : Kind → Cell → Option Value
value_in k (cell.Int n) = number_in k n
value_in k (cell.Text bytes) = text_in k bytes
value_in k cell.Null = None
value_in k (cell.Real x) = None
value_in k (cell.Blob bytes) = None

-- whether it is 0 or the empty text
abbrev pub is_empty : Cell → Bool
is_empty (cell.Int n) = int_eq n (pos 0)
is_empty (cell.Text bytes) = length bytes == 0
is_empty cell.Null = false
is_empty (cell.Real x) = false
is_empty (cell.Blob bytes) = false

-- what stands with its mark for a value of this kind: null where the mark is 1, if it is 0 or the empty text
abbrev pub marked_in : Kind → Cell → Cell → Option Value
marked_in k c (cell.Int m) = if int_eq m (pos 0) then value_in k c else (if int_eq m (pos 1) && is_empty c then Some Null else None)
marked_in k c (cell.Text bytes) = None
marked_in k c cell.Null = None
marked_in k c (cell.Real x) = None
marked_in k c (cell.Blob bytes) = None

-- whether a text is UTF-8 and no longer than a text may be, as each `Text` is; another value has none
abbrev pub has_text : Value → Bool
has_text Null = true
has_text (Int n) = true
has_text (Text bytes) = is_utf8 bytes && is_text bytes
has_text (Flag b) = true

-- what stands for a value of this kind, with its mark where the kind takes null
abbrev pub read_in : Kind → Cell → Cell → Option Value
read_in k c mark = if is_nullable k then marked_in k c mark else value_in k c

-- in a column of its kind, the value is read again
abbrev pub ReadsBack : Kind → Value → Cell → Type 0
ReadsBack k value c = fits value k ≡ true → has_text value ≡ true → read_in k c (mark_of value) ≡ Some value
