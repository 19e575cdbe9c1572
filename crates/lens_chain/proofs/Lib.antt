pub mod Chain
pub mod Entries
pub mod Gathered
pub mod Premises
pub mod EditLooks
