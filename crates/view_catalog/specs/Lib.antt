pub mod Admissions
pub mod Contents
pub mod Faults
pub mod Judgements
pub mod Keys
