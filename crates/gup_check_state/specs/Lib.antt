pub mod Presence
pub mod Ranges
pub mod Shows
