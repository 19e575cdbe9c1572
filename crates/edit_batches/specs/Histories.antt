-- What entries stand for.
use Rattle.std.specs.Prelude.{List}
use Rattle.lens_specs.specs.Delta.{TableDelta}
use Rattle.edit_batches.specs.declared.entries.Entry.{Entry}

-- the differences of an entry
abbrev pub deltas_of : Entry → List TableDelta
deltas_of entry = entry.deltas
