pub mod Asking
pub mod Calls
pub mod Changes
pub mod Holding
pub mod Places
