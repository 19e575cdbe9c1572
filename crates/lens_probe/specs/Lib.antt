pub mod Handed
pub mod NearRows
pub mod Looking
pub mod Needs
pub mod Reading
pub mod Viewed
