-- What is stated of differences of tables.
use Rattle.std.specs.Prelude.{◌≡◌, List}
use Rattle.std.specs.FinMap as finmap
use Rattle.lens_specs.specs.Common.{TableDelta, differences, Tables, AreDeltas, LeadTo, composed}

-- what is composed of two differences leads where they do, the one after the other
abbrev pub ComposedLeads : Type 0
ComposedLeads = (ds es : List TableDelta) (a b c : Tables) → AreDeltas ds → AreDeltas es → LeadTo ds a b → LeadTo es b c → LeadTo (composed ds es) a c

-- a difference by rising names, with no empty one, is the only one between its tables
abbrev pub DifferencesAreAlone : Type 0
DifferencesAreAlone = (ds : List TableDelta) (a b : Tables) → AreDeltas ds → LeadTo ds a b → ds ≡ differences (finmap.keys a) a b
