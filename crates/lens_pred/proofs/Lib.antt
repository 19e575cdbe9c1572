pub mod Conjuncts
pub mod Views
pub mod Walks
pub mod Renamed
