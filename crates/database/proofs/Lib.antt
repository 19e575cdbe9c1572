pub mod Keyed
pub mod LensNeeds
pub mod Walked
pub mod Grown
pub mod ChangePlans
pub mod Indexed
pub mod SettledPlans
