pub mod Counters
pub mod Seen
pub mod Moving
