pub mod Codes
pub mod Joins
pub mod Members
pub mod Ranks
