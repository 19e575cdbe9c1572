-- Rows that were found before.
use Rattle.std.specs.Prelude.{◌≡◌, List}
use Rattle.std.specs.List.{All}
use Rattle.lens_specs.specs.Common.{Lens, Tables, base, select, drop, rename, get, Rows}
use Rattle.lens_specs.specs.Lens.{join}
use Rattle.lens_laws.specs.KeyedDeltas.{find_by}
use Rattle.base_index.specs.Held.{State}
use Rattle.lens_probe.specs.declared.near.Near.{Near}

-- the first join down the lens, or its table where there is none
abbrev pub first_join : Lens → Lens
first_join (base t s) = base t s
first_join (select P L) = first_join L
first_join (drop A X a L) = first_join L
first_join (rename A B L) = first_join L
first_join (join k A B) = join k A B

-- the rows of the first join down the lens
abbrev pub of_join : Lens → Tables → Rows
of_join L db = get (first_join L) db

-- these are the rows of M by their key
abbrev pub IsKnown : Rows → Near → Type 0
IsKnown M near = near.rows ≡ find_by near.cols near.key M

-- each of these is
abbrev pub AreKnown : Rows → List Near → Type 0
AreKnown M near = All (IsKnown M) near

-- these are rows of the first join down the lens, by their keys
abbrev pub AreOfJoin : Lens → State → List Near → Type 0
AreOfJoin L st near = AreKnown (of_join L st.relations) near
