pub mod Arrival
pub mod Entries
pub mod Lacks
pub mod Sides
