pub mod Exports
pub mod Running
pub mod Offering
pub mod Opening
pub mod Promises
