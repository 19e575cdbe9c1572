-- Rows behind ranks.
use Rattle.plain_values.specs.Row.{Row}
use Rattle.row_sets.specs.declared.ranking.Ranked.{Ranked}

-- the row behind the rank
abbrev pub row_of : Ranked → Row
row_of r = r.row
