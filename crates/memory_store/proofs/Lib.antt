pub mod After
pub mod ByTable
pub mod TreeRows
