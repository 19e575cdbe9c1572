pub mod Chosen
pub mod Disjoint
pub mod DeltaCode
pub mod Keys
pub mod Tables
