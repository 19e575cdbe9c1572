pub mod CellsLemmas
pub mod CellsListed
pub mod InMemory
pub mod KnownTables
pub mod NamesAlike
pub mod RowsRead
pub mod Texts
