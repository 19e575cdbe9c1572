-- How many rows a find may look at by key.
use Rattle.std.specs.Prelude.{ℕ, if◌then◌else◌}
use Rattle.lens_specs.specs.Common.{Lens, sort_of, Name, one}
use Rattle.lens_laws.specs.Work.{size}
use Rattle.lens_probe.specs.Viewed.{is_left_side}

-- the most looks of a find in a column, where no look-up in a table gives more than w rows: none where it walks the view
abbrev pub looks_by : Name → ℕ → Lens → ℕ
looks_by column w L = if is_left_side (one column) (sort_of L).tree then size L w else 0
