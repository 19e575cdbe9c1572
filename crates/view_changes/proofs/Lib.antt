pub mod FoundClashes
pub mod ChangeLooks
pub mod SentRows
pub mod ChangeTests
