use Rattle.server_laws.proofs.Changes.{imports_put}
use Rattle.server_laws.proofs.Exports.{exports_sheets, imports_of_exports, no_nulls, others_left, reads_back, records_told, sheets_know}
use Rattle.server_laws.proofs.Returned.{exports_come_back}
use Rattle.server_laws.proofs.exports_can_be_imported.Goals as goal

pub returns : goal.returns
returns c = record {
  unknown = sheets_know;
  nulls = no_nulls;
  records = records_told;
  exports = exports_sheets;
  imports = imports_put;
  others = others_left;
  back = reads_back;
  same = imports_of_exports;
  sessions = exports_come_back;
}
