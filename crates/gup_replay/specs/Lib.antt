pub mod Turns
pub mod Beside
