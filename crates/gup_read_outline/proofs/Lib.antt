pub mod Actors
pub mod Draws
