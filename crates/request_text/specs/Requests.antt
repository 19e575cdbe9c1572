-- What the requests of the code stand for.
pub use Rattle.request_reading.specs.Requests.{request_view, refusal, Tells, Reads}
