pub mod Begun
pub mod Needs
pub mod Referring
