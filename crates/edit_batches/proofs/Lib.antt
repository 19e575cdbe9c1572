pub mod Chains
pub mod Lists
pub mod Moves
pub mod RowSets
pub mod Unions
