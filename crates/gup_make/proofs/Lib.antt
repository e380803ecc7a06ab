pub mod Handles
pub mod Lines
