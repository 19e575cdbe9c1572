-- What the words of the command line say: the place of the store, the limit of the input and the number of the rehearsal.
use Rattle.std.specs.Prelude.{ℕ, ◌==◌, ◌&&◌, not, nat_le, List, Bool, Option, Some, None, is_some, length, if◌then◌else◌, option_and_then, option_map}
use Rattle.std.specs.Char.{is_ascii_digit}
use Rattle.std.specs.List.{list_all}
use Rattle.std.specs.Str.Parse.{digits_value}
use Rattle.arguments.specs.Options.{Entries, entries}

-- whether a text is 1 to 13 decimal digits
abbrev pub is_number : List ℕ → Bool
is_number text = not (length text == 0) && nat_le (length text) 13 && list_all is_ascii_digit text

-- the number that they say
abbrev pub number_of : List ℕ → Option ℕ
number_of text = if is_number text then Some (digits_value 10 text) else None

-- the number, if it is from 1 to the greatest
abbrev pub within : ℕ → ℕ → Option ℕ
within greatest n = if nat_le 1 n && nat_le n greatest then Some n else None

-- the number that a text says, if it is from 1 to the greatest
abbrev pub number_within : ℕ → List ℕ → Option ℕ
number_within greatest text = option_and_then (within greatest) (number_of text)

-- whether a place has 1 to 4,096 bytes
abbrev pub is_place : List ℕ → Bool
is_place text = not (length text == 0) && nat_le (length text) 4096

-- the settings of a run
pub record Settings : Type 0 where
  -- the place of the store, if one is given
  pub store : Option (List ℕ)
  -- how many bytes of the input are served
  pub max_input : ℕ
  -- the number of the rehearsal, if there is to be one
  pub rehearse : Option ℕ

-- the place that the option says
abbrev pub store_of : Option (List ℕ) → Option (Option (List ℕ))
store_of None = Some None
store_of (Some text) = if is_place text then Some (Some text) else None

-- the limit that the option says, up to 1,099,511,627,776; it is 4,294,967,296 by itself
abbrev pub max_input_of : Option (List ℕ) → Option ℕ
max_input_of None = Some 4294967296
max_input_of (Some text) = number_within 1099511627776 text

-- the number of the rehearsal that the option says, up to 100,000
abbrev pub rehearse_of : Option (List ℕ) → Option (Option ℕ)
rehearse_of None = Some None
rehearse_of (Some text) = option_map (λ n. Some n) (number_within 100000 text)

-- the settings, unless a place is given beside a rehearsal
abbrev pub apart : Settings → Option Settings
apart s = if is_some s.store && is_some s.rehearse then None else Some s

-- the settings that the values of the options say; none where one is out of its range
abbrev pub settings_of : Entries → Option Settings
settings_of e =
    option_and_then (λ store.
    option_and_then (λ max_input.
    option_and_then (λ rehearse. apart (record { store = store; max_input = max_input; rehearse = rehearse }))
    (rehearse_of e.rehearse)) (max_input_of e.max_input)) (store_of e.store)

-- the settings that the words say, the program's name being the first; none where the words are refused
unfoldable pub settings : List (List ℕ) → Option Settings
settings words = option_and_then settings_of (entries words)
