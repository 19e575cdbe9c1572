-- What the faults of rows stand for.
pub use Rattle.request_reading.specs.RowFaults.{bad_row, TellsRow, GivesRows, set_of}
