pub mod Kept
pub mod Path
pub mod Pool
pub mod Rows
pub mod Tree
