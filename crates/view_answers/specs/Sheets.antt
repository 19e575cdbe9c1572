-- What is exported reads back.
use Rattle.std.specs.Prelude.{◌≡◌, None}
use Rattle.lens_specs.specs.Lens.{Lens, Tables, sort_of}
use Rattle.server_specs.specs.Exporting.{first_nullable}
use Rattle.server_laws.specs.SheetLaws.{ReadsBack}

-- where no column of the view may be null, its text reads back as its rows
abbrev pub SheetReadsBack : Lens → Tables → Type 0
SheetReadsBack L db = first_nullable (sort_of L).columns ≡ None → ReadsBack L db
