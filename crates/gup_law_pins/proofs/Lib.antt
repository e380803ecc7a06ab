pub mod Pins
pub mod Moves
