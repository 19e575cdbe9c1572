pub mod Admitted
pub mod Filled
pub mod Inspected
pub mod Stored
pub mod Told
