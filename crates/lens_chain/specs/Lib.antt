pub mod Changed
pub mod Edits
