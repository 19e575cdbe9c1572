pub mod Hash
pub mod Paired
pub mod Repeats
pub mod Unions
