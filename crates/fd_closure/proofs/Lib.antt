pub mod Arrivals
pub mod Closed
pub mod Counting
pub mod Counts
pub mod Indexes
