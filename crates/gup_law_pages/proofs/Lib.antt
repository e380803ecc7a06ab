pub mod Faults
pub mod Breaks
pub mod Mappings
pub mod Data
pub mod Mirrors
