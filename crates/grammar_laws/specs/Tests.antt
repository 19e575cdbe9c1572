-- What a token is, as a parser asks.
use Rattle.std.specs.Prelude.{ℕ, Bool, true, false, List, codes, nat_eq, Option, Some, None, if◌then◌else◌}
use Rattle.std.specs.Cmp.Lexicographic.{pointwise}
use Rattle.plain_values.specs.declared.join_kind.JoinKind.{JoinKind}
use Rattle.plain_values.specs.declared.join_kind.JoinKind.TheVariants.{DeleteLeft, DeleteRight, DeleteBoth}
use Rattle.plain_values.specs.declared.value.Kind.{Kind}
use Rattle.plain_values.specs.declared.value.Kind.TheVariants as kind
use Rattle.plain_values.specs.declared.value.Value.{Value}
use Rattle.plain_values.specs.declared.value.Value.TheVariants.{Null, Int, Text, Flag}
use Rattle.lens_specs.specs.Common.{Name, Op, eq}
use Rattle.grammar_specs.specs.Tokens.{Token, word, integer, text, open_paren, close_paren, comma, arrow, operator, is_free_name}

-- the two words are one
abbrev pub is_word : List ℕ → List ℕ → Bool
is_word w v = pointwise nat_eq w v

-- whether it is this word
abbrev pub is_keyword : List ℕ → Token → Bool
is_keyword k (word w) = is_word w k
is_keyword k other = false

-- the name that it is, which can be one
abbrev pub free_in : Token → Option Name
free_in (word w) = if is_free_name w then Some w else None
free_in other = None

-- the comparison that it is
abbrev pub op_in : Token → Option Op
op_in (operator op) = Some op
op_in other = None

-- the truth value of the word
abbrev pub flag_named : List ℕ → Option Bool
flag_named w = if is_word w (codes "true") then Some true else if is_word w (codes "false") then Some false else None

-- the kind of the word
abbrev pub kind_named : List ℕ → Option Kind
kind_named w = if is_word w (codes "int") then Some kind.Int else if is_word w (codes "text") then Some kind.Text else if is_word w (codes "bool") then Some kind.Flag else None

-- the kind of joins of the word
abbrev pub join_kind_named : List ℕ → Option JoinKind
join_kind_named w = if is_word w (codes "join_dl") then Some DeleteLeft else if is_word w (codes "join_dr") then Some DeleteRight else if is_word w (codes "join_both") then Some DeleteBoth else None

-- the truth value that it is
abbrev pub flag_in : Token → Option Bool
flag_in (word w) = flag_named w
flag_in other = None

-- the literal that it is
abbrev pub literal_in : Token → Option Value
literal_in (word w) = if is_word w (codes "true") then Some (Flag true) else if is_word w (codes "false") then Some (Flag false) else None
literal_in (integer z) = Some (Int z)
literal_in (text b) = Some (Text b)
literal_in other = None

-- the default that it is: a literal, or null
abbrev pub fill_in : Token → Option Value
fill_in t = if is_keyword (codes "null") t then Some Null else literal_in t

-- the kind that it is
abbrev pub kind_in : Token → Option Kind
kind_in (word w) = kind_named w
kind_in other = None

-- the kind of joins that it begins
abbrev pub join_kind_in : Token → Option JoinKind
join_kind_in (word w) = join_kind_named w
join_kind_in other = None

-- the kind that takes null too
abbrev pub with_null : Kind → Kind
with_null kind.Int = kind.IntOrNull
with_null kind.Text = kind.TextOrNull
with_null kind.Flag = kind.FlagOrNull
with_null kind.IntOrNull = kind.IntOrNull
with_null kind.TextOrNull = kind.TextOrNull
with_null kind.FlagOrNull = kind.FlagOrNull

abbrev pub is_open : Token → Bool
is_open open_paren = true
is_open other = false

abbrev pub is_close : Token → Bool
is_close close_paren = true
is_close other = false

abbrev pub is_comma : Token → Bool
is_comma comma = true
is_comma other = false

abbrev pub is_arrow : Token → Bool
is_arrow arrow = true
is_arrow other = false

abbrev pub is_op : Op → Bool
is_op eq = true
is_op other = false

-- whether it is `=`
abbrev pub is_equals : Token → Bool
is_equals (operator op) = is_op op
is_equals other = false
