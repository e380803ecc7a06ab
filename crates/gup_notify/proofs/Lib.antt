pub mod Slots
pub mod Invalidation
