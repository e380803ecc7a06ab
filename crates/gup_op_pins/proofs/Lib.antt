pub mod Pinning
pub mod Readying
pub mod Holding
pub mod Telling
pub mod Referring
mod Stepping
mod WalkTurning
