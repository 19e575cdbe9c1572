pub mod Found
pub mod Trees
mod Turns
