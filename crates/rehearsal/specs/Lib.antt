pub mod Rehearsal
pub mod Rehearsed
pub mod Stages
pub mod Summary
pub mod Walking
