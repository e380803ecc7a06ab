pub mod Handles
pub mod Kept
pub mod Shows
pub mod State
