use Rattle.csv_specs.proofs.RoundTrip.{sheets_read_back}
use Rattle.view_csv.proofs.sheets_read_back.Goals as goal

pub returns : goal.returns
returns c = sheets_read_back
