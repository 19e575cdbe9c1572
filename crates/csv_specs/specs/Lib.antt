pub mod Fields
pub mod Sheets
pub mod SheetLaws
