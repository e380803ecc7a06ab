pub mod Law
pub mod Possible
