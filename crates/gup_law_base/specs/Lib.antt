pub mod Simulated
pub mod Sound
