pub mod Refusal
pub mod Lines
pub mod Parts
pub mod Notes
