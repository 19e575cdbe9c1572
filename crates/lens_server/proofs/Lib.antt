pub mod BatchSteps
pub mod WalkedRows
pub mod Defined
pub mod Exported
pub mod Loaded
pub mod LooksByName
pub mod Stepping
pub mod NamedViews
