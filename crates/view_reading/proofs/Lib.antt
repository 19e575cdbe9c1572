pub mod Bases
mod Sides
pub mod KnownParts
pub mod Listed
mod NamedRows
pub mod PairParts
mod PartLists
pub mod RenamedRows
