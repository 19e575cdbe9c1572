pub mod Checked
pub mod Code
pub mod NormalForm
pub mod Op
pub mod Sought
pub mod Split
pub mod View
