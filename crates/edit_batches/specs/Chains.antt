-- Lists of differences, one after another.
use Rattle.std.specs.Prelude.{◌≡◌, List, [], ◌∷◌}
use Rattle.plain_values.specs.SortedSet as set
use Rattle.lens_specs.specs.Common.{Delta, TableDelta, Tables, LeadTo}

-- each of the lists leads on from where the one before it led
abbrev pub Chain : List (List TableDelta) → Tables → Tables → Type 0
Chain [] old new = old ≡ new
Chain (cs ∷ others) old new = (mid : Tables) × LeadTo cs old mid × Chain others mid new

-- the difference that neither removes nor adds a row
abbrev pub no_change : Delta
no_change = record { remove = set.empty; add = set.empty }
