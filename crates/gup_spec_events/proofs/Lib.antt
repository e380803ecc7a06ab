pub mod Gone
pub mod Runs
