pub mod Knows
pub mod Present
