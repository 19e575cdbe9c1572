pub mod Trees
pub mod Witness
pub mod Laws
