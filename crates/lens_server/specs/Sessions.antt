-- The words of one line of a session: the step that it is, and what the keeper is asked and tells.
pub use Rattle.lens_specs.specs.Keeping.{Follows, Stays, IfObserved}
pub use Rattle.io_specs.specs.Calls.{Adds}
pub use Rattle.io_specs.specs.Faults.{Rose}
pub use Rattle.io_specs.specs.Lines.{marked}
pub use Rattle.server_specs.specs.Answer.{memory, text}
pub use Rattle.server_specs.specs.Answering.{answer}
pub use Rattle.server_specs.specs.Request.{request}
pub use Rattle.server_specs.specs.Session.{Step}
pub use Rattle.server_specs.specs.Validity.{Valid}
pub use Rattle.server_laws.specs.SheetLaws.{IsExportLine, ReadsBack}
pub use Rattle.lens_server.specs.Committing.{CommitsFor}
