pub mod Summary
pub mod Counts
