use Rattle.std.proofs.Common.{◌≡◌, true, ◌∷◌, Some, map, take}
use Rattle.std.specs.FinMap as finmap
use Rattle.plain_values.proofs.Common.{list_all, is_name}
use Rattle.csv_specs.specs.SheetLaws.{is_right}
use Rattle.csv_specs.specs.Sheets.{record_of, text_of}
use Rattle.view_csv.specs.Texts.{HasWritten}
use Rattle.view_csv.proofs.writing.to_csv.Given as goal

abbrev pub invariant-loop-row : goal.invariant-loop-row
invariant-loop-row l = record {
  text : HasWritten (λ v. Some v.items) l.writer (text_of (finmap.keys l.columns ∷ map record_of (take l.row-index l.row-items)));
  names : list_all is_name (finmap.keys l.columns) ≡ true;
  right : list_all (λ row. list_all is_right (finmap.values row)) (take l.row-index l.row-items) ≡ true;
}
