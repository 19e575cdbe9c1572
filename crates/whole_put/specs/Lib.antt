pub mod Joinable
pub mod Lost
pub mod Seen
pub mod Shows
pub mod Sources
