pub mod Standing
pub mod Slots
