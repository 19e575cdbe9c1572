pub mod Answers
pub mod Edits
pub mod Requests
pub mod RowFaults
pub mod Told
