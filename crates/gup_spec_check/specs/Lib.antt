pub mod Seen
pub mod Times
pub mod Verdicts
