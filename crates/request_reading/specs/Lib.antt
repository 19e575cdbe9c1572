pub mod Blames
pub mod Edits
pub mod ItemsCode
pub mod RequestKinds
pub mod Requests
pub mod RowFaults
pub mod SentRows
pub mod Told
