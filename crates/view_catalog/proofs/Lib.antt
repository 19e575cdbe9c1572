pub mod Counts
pub mod Entries
pub mod Growth
pub mod Taken
pub mod Verdicts
