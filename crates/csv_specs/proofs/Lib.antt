pub mod Readings
pub mod Values
pub mod Headers
pub mod Rows
pub mod RoundTrip
pub mod Fitting
