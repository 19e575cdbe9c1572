pub mod Calls
pub mod Continued
pub mod Finished
pub mod LongLines
pub mod Opened
pub mod Promised
pub mod Served
