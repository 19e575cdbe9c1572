-- By how many rows a change changes its view.
use Rattle.std.specs.Prelude.{ℕ, ◌+◌, List, Ok, Err}
use Rattle.serde_json.specs.Data.{Items}
use Rattle.lens_specs.specs.Common.{diff, Lens, Tables, get, sort_of, Rows}
use Rattle.csv_specs.specs.Sheets.{unsheet}
use Rattle.lens_laws.specs.Work.{count_of, rows_of}
use Rattle.server_specs.specs.Answer.{Listed, in_add, in_remove, in_rows}
use Rattle.server_specs.specs.Changing.{set_in}

-- how many rows a list sends, each once; none where one of them is bad
abbrev pub sent_of : Listed → Lens → Items → ℕ
sent_of which L items = elim (set_in which (sort_of L).columns items) [ Ok rows ↦ count_of rows | Err bad ↦ 0 ]

-- the rows of an edit, to remove and to add
abbrev pub sent_by : Lens → Items → Items → ℕ
sent_by L remove add = sent_of in_remove L remove + sent_of in_add L add

-- the rows by which these differ from what the view shows
abbrev pub differs_by : Tables → Lens → Rows → ℕ
differs_by db L rows = rows_of (diff (get L db) rows)

-- the rows by which a put differs from what the view shows
abbrev pub changed_by : Tables → Lens → Items → ℕ
changed_by db L items = elim (set_in in_rows (sort_of L).columns items) [ Ok rows ↦ differs_by db L rows | Err bad ↦ 0 ]

-- the rows by which those of a text do; none where a record is wrong
abbrev pub imported_by : Tables → Lens → List ℕ → ℕ
imported_by db L text = elim (unsheet (sort_of L).columns text) [ Ok rows ↦ differs_by db L rows | Err place ↦ 0 ]
