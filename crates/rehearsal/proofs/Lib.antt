pub mod Joined
pub mod Points
pub mod Loops
pub mod Short
pub mod Texts
pub mod Last
pub mod Whole
pub mod Read
