-- What the sources of a lens show.
use Rattle.std.specs.Prelude.{◌≡◌, Option, None, Some}
use Rattle.lens_specs.specs.Common.{Lens, Tables, base, select, drop, rename, view, Relation}
use Rattle.lens_specs.specs.Lens.{join}
use Rattle.whole_put.specs.declared.sources.Sources.{Sources, Table, One', Two'}

-- what the only source shows, and its sources; each p stands for a pointer to what follows it
abbrev pub only_of : Sources → Option (Relation × Sources)
only_of Table = None
only_of (One' shown p under) = Some (shown, under)
only_of (Two' left p under_left right q under_right) = None

-- what each of two sources shows, and its sources
abbrev pub both_of : Sources → Option ((Relation × Sources) × (Relation × Sources))
both_of Table = None
both_of (One' shown p under) = None
both_of (Two' left p under_left right q under_right) = Some ((left, under_left), (right, under_right))

-- these are what the sources of the lens show of the tables, and theirs in turn
abbrev pub AreShown : Lens → Tables → Sources → Type 0
AreShown (base t s) db S = Unit {0}
AreShown (select P C) db S = (under : Sources) × (only_of S ≡ Some (view C db, under)) × AreShown C db under
AreShown (drop A X a C) db S = (under : Sources) × (only_of S ≡ Some (view C db, under)) × AreShown C db under
AreShown (rename A B C) db S = (under : Sources) × (only_of S ≡ Some (view C db, under)) × AreShown C db under
AreShown (join k A B) db S = (left : Sources) × (right : Sources) × (both_of S ≡ Some ((view A db, left), (view B db, right))) × AreShown A db left × AreShown B db right
