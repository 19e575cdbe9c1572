pub mod Cols
pub mod Group
pub mod Index
pub mod Key
pub mod KeyOrder
pub mod Lists
pub mod Marks
