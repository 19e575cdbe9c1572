-- What a call gives that may refuse, or run out of memory.
pub use Rattle.request_reading.specs.Told.{RefusesBy, GivesTold}
