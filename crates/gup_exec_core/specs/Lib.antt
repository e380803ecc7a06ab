pub mod State
pub mod Tried
pub mod Protected
