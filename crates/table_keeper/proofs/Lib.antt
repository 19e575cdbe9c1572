pub mod Places
pub mod Deltas
pub mod ByName
