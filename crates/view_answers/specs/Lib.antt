pub mod Looks
pub mod Sheets
