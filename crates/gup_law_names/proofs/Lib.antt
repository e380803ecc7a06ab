pub mod Standing
pub mod Naming
