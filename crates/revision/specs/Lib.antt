pub mod Changes
pub mod FirstByKey
pub mod Near
pub mod Touching
