-- What reading a whole view takes.
pub use Rattle.view_reading.specs.Reading.{rows_under}
