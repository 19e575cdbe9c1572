pub mod Bodies
pub mod Defining
pub mod Fields
pub mod Holding
pub mod Known
pub mod Settled
pub mod Staging
pub mod Tabled
