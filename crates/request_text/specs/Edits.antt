-- What the edits of a batch stand for.
pub use Rattle.request_reading.specs.Edits.{edit_view}
