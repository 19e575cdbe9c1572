pub mod Chains
pub mod DeltasCode
pub mod Histories
pub mod Laws
