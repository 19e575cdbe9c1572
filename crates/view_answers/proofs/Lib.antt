pub mod ViewColumns
pub mod Formulas
