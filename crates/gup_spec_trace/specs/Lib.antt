pub mod Note
pub mod Written
pub mod Names
pub mod Kept
pub mod Trace
