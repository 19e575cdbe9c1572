-- Values, their kinds and their order.
use Rattle.std.specs.Prelude.{ℕ, Bool, true, false, Option, Some, None, nat_eq}
use Rattle.std.specs.declared.cmp.Ordering.{Ordering}
use Rattle.std.specs.declared.cmp.Ordering.TheVariants.{Less, Equal, Greater}
use Rattle.std.specs.Ordering.{int_cmp, bool_cmp, is_eq}
use Rattle.plain_values.specs.Order.{bytes_cmp}
use Rattle.plain_values.specs.declared.value.Kind.{Kind}
use Rattle.plain_values.specs.declared.value.Kind.TheVariants as kind
use Rattle.plain_values.specs.declared.value.Value.{Value}
use Rattle.plain_values.specs.declared.value.Value.TheVariants.{Null, Int, Text, Flag}

-- the kind of a value, none of null
abbrev pub kind_of : Value → Option Kind
kind_of Null = None
kind_of (Int z) = Some kind.Int
kind_of (Text bytes) = Some kind.Text
kind_of (Flag b) = Some kind.Flag

-- whether the value is null
abbrev pub is_null : Value → Bool
is_null Null = true
is_null (Int z) = false
is_null (Text bytes) = false
is_null (Flag b) = false

-- the kind with its null taken away
abbrev pub base_of : Kind → Kind
base_of kind.Int = kind.Int
base_of kind.Text = kind.Text
base_of kind.Flag = kind.Flag
base_of kind.IntOrNull = kind.Int
base_of kind.TextOrNull = kind.Text
base_of kind.FlagOrNull = kind.Flag

-- whether null is of the kind
abbrev pub is_nullable : Kind → Bool
is_nullable kind.Int = false
is_nullable kind.Text = false
is_nullable kind.Flag = false
is_nullable kind.IntOrNull = true
is_nullable kind.TextOrNull = true
is_nullable kind.FlagOrNull = true

-- the place of a kind among the six
abbrev pub kind_place : Kind → ℕ
kind_place kind.Int = 0
kind_place kind.Text = 1
kind_place kind.Flag = 2
kind_place kind.IntOrNull = 3
kind_place kind.TextOrNull = 4
kind_place kind.FlagOrNull = 5

-- whether two kinds are the same
abbrev pub same_kind : Kind → Kind → Bool
same_kind j k = nat_eq (kind_place j) (kind_place k)

-- null fits where the kind takes it, another value where it is of the kind's base
abbrev pub fits_kind : Option Kind → Kind → Bool
fits_kind None k = is_nullable k
fits_kind (Some j) k = same_kind j (base_of k)

-- whether the value fits the kind
unfoldable pub fits : Value → Kind → Bool
fits v k = fits_kind (kind_of v) k

-- null before numbers before texts before flags; then by number, by bytes, and false before true
abbrev pub value_cmp : Value → Value → Ordering
value_cmp Null Null = Equal
value_cmp Null (Int y) = Less
value_cmp Null (Text y) = Less
value_cmp Null (Flag y) = Less
value_cmp (Int x) Null = Greater
value_cmp (Int x) (Int y) = int_cmp x y
value_cmp (Int x) (Text y) = Less
value_cmp (Int x) (Flag y) = Less
value_cmp (Text x) Null = Greater
value_cmp (Text x) (Int y) = Greater
value_cmp (Text x) (Text y) = bytes_cmp x y
value_cmp (Text x) (Flag y) = Less
value_cmp (Flag x) Null = Greater
value_cmp (Flag x) (Int y) = Greater
value_cmp (Flag x) (Text y) = Greater
value_cmp (Flag x) (Flag y) = bool_cmp x y

-- whether both are the same value, or both are nothing
abbrev pub same_value : Option Value → Option Value → Bool
same_value None None = true
same_value None (Some w) = false
same_value (Some v) None = false
same_value (Some v) (Some w) = is_eq (value_cmp v w)
