pub mod Spots
pub mod Alike
pub mod Released
pub mod Turns
