mod HandedSteps
mod KeyColumns
pub mod Contained
pub mod Found
pub mod Viewing
mod NearRows
pub mod RenamedViews
pub mod Sizes
