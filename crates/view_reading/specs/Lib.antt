pub mod Reading
pub mod Unfiltered
pub mod KnownRows
pub mod Pasting
