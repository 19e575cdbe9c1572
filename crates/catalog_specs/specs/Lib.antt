pub mod Catalogue
pub mod Judging
