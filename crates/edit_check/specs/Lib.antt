pub mod Checked
pub mod Replaced
